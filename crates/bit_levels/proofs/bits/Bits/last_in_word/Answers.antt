use Rattle.std.proofs.Common.{◌+◌, ◌*◌, List, Bool, subst, arith, refl}
use Rattle.std.proofs.lemmas.List.{get_or_read}
use Rattle.bit_levels.specs.Sets.{HasNoneIn, IsLastIn}
use Rattle.bit_levels.proofs.Words.{bound_of, none_in_word, last_in_word_is}
use Rattle.bit_levels.proofs.bits.Bits.last_in_word.Goals as goal

pub index-requires : goal.index-requires
index-requires c =
    let n = bound_of c.self.inside.len c.self.inside.words.items _ c.self.view_is in
    let count = c.self.invariant.count in
    let len = c.self.inside.words.ok.0 in
    omega (arith, n, count, len)

pub returns-in_err-place : goal.returns-in_err-place
returns-in_err-place c =
    let P : List Bool → Type 0 = λ xs. HasNoneIn xs (c.args.word * 64) (c.args.word * 64 + 64) in
    let n = bound_of c.self.inside.len c.self.inside.words.items _ c.self.view_is in
    let count = c.self.invariant.count in
    let len = c.self.inside.words.ok.0 in
    let here = get_or_read c.self.inside.words.items (c.args.word) c.index.result.now (omega (arith, n, count, len)) c.index.ensures 0 in
    rw c.from_residual.ensures (subst P c.self.view_is
    (none_in_word c.self.inside.len c.self.inside.words.items c.self.invariant c.args.word (c.args.word * 64 + 64)
    c.index.result.now (omega arith) (λ p l. rw here refl) c.in_err-place.ensures))

pub overflow_mul-result : goal.overflow_mul-result
overflow_mul-result c =
    let n = bound_of c.self.inside.len c.self.inside.words.items _ c.self.view_is in
    let count = c.self.invariant.count in
    let len = c.self.inside.words.ok.0 in
    let small = c.self.invariant.small in
    omega (arith, n, count, len, small)

pub overflow_add-result : goal.overflow_add-result
overflow_add-result c =
    let n = bound_of c.self.inside.len c.self.inside.words.items _ c.self.view_is in
    let count = c.self.invariant.count in
    let len = c.self.inside.words.ok.0 in
    let place = c.in_ok-place.ensures in
    let small = c.self.invariant.small in
    omega (arith, n, count, len, place.0, small)

pub returns : goal.returns
returns c =
    let P : List Bool → Type 0 = λ xs. IsLastIn xs (c.args.word * 64) (c.args.word * 64 + 64) (c.args.word * 64 + c.in_ok-place.place) in
    let n = bound_of c.self.inside.len c.self.inside.words.items _ c.self.view_is in
    let count = c.self.invariant.count in
    let len = c.self.inside.words.ok.0 in
    let here = get_or_read c.self.inside.words.items (c.args.word) c.index.result.now (omega (arith, n, count, len)) c.index.ensures 0 in
    let place = c.in_ok-place.ensures in
    subst P c.self.view_is (last_in_word_is c.self.inside.len c.self.inside.words.items c.self.invariant c.args.word
    (c.args.word * 64 + 64) c.index.result.now c.in_ok-place.place
    (omega arith) (omega (arith, place.0)) (λ p l. rw here refl) place.0 place.1 place.2)
