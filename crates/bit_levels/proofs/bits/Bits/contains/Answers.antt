use Rattle.std.proofs.Common.{List, Bool, sym, subst, arith, ◌/◌}
use Rattle.std.proofs.lemmas.List.{get_or_read}
use Rattle.bit_levels.specs.Sets.{IsIn}
use Rattle.bit_levels.proofs.Words.{bound_of, from_in, one_in}
use Rattle.bit_levels.proofs.bits.Bits.contains.Goals as goal

pub index-requires : goal.index-requires
index-requires c =
    let n = bound_of c.self.inside.len c.self.inside.words.items _ c.self.view_is in
    let count = c.self.invariant.count in
    let len = c.self.inside.words.ok.0 in
    omega (arith, n, count, len)

pub returns : goal.returns
returns c =
    let P : List Bool → Type 0 = λ xs. IsIn xs c.args.number in
    let n = bound_of c.self.inside.len c.self.inside.words.items _ c.self.view_is in
    let count = c.self.invariant.count in
    let len = c.self.inside.words.ok.0 in
    let here = get_or_read c.self.inside.words.items (c.args.number / 64) c.index.result.now (omega (arith, n, count, len)) c.index.ensures 0 in
    let r = rw here at c.has.ensures in (
      λ t. subst P c.self.view_is (one_in c.self.inside.len c.self.inside.words.items c.self.invariant c.args.number (r.0 t)),
      λ is. r.1 (from_in c.self.inside.len c.self.inside.words.items c.self.invariant c.args.number (subst P (sym c.self.view_is) is)),
    )
