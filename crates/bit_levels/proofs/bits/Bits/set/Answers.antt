use Rattle.std.proofs.Common.{◌<◌, List, Bool, ap, ◌∙◌, set, arith, ◌/◌}
use Rattle.std.proofs.lemmas.List.{get_or_read}
use Rattle.bit_levels.proofs.Words.{bound_of, set_words}
use Rattle.bit_levels.proofs.bits.Bits.set.Goals as goal

pub index-old-requires : goal.index-old-requires
index-old-requires c =
    let n = bound_of c.self.inside.len c.self.inside.words.items _ c.self.view_is in
    let count = c.self.invariant.count in
    let len = c.self.inside.words.ok.0 in
    omega (arith, n, count, len)

pub index_mut-requires : goal.index_mut-requires
index_mut-requires c =
    let n = bound_of c.self.inside.len c.self.inside.words.items _ c.self.view_is in
    let count = c.self.invariant.count in
    let len = c.self.inside.words.ok.0 in
    omega (arith, n, count, len)

pub invariant_of-self : goal.invariant_of-self
invariant_of-self c =
    let n = bound_of c.self.inside.len c.self.inside.words.items _ c.self.view_is in
    let count = c.self.invariant.count in
    let len = c.self.inside.words.ok.0 in
    let l : c.args.number < c.self.inside.len = omega (arith, n) in
    let here = get_or_read c.self.inside.words.items (c.args.number / 64) c.index-old.result.now (omega (arith, n, count, len)) c.index-old.ensures 0 in
    (set_words c.self.inside.len c.self.inside.words.items c.self.invariant c.args.number c.with.result c.args.value l c.with.ensures.here
    (rw here at c.with.ensures.others)).0

pub returns : goal.returns
returns c =
    let n = bound_of c.self.inside.len c.self.inside.words.items _ c.self.view_is in
    let count = c.self.invariant.count in
    let len = c.self.inside.words.ok.0 in
    let l : c.args.number < c.self.inside.len = omega (arith, n) in
    let here = get_or_read c.self.inside.words.items (c.args.number / 64) c.index-old.result.now (omega (arith, n, count, len)) c.index-old.ensures 0 in
    let S : List Bool → List Bool = λ xs. set xs c.args.number c.args.value in
    (set_words c.self.inside.len c.self.inside.words.items c.self.invariant c.args.number c.with.result c.args.value l c.with.ensures.here
    (rw here at c.with.ensures.others)).1 ∙ ap S c.self.view_is
