use Rattle.std.proofs.Common.{◌≡◌, ◌+◌, ◌*◌, ◌/◌, ◌%◌, ◌<◌, ℕ, List, Bool, sym, subst, get_or, arith, inl, inr}
use Rattle.std.specs.Int.{bit_at}
use Rattle.std.proofs.lemmas.List.{get_or_read}
use Rattle.std.proofs.lemmas.Bool.{cases_lt}
use Rattle.bit_levels.specs.Sets.{HasNoneIn, IsLastIn}
use Rattle.bit_levels.proofs.Words.{bound_of, none_in_word, last_in_word_is}
use Rattle.bit_levels.proofs.bits.Bits.last_in_word_below.Goals as goal

pub index-requires : goal.index-requires
index-requires c =
    let n = bound_of c.self.inside.len c.self.inside.words.items _ c.self.view_is in
    let count = c.self.invariant.count in
    let len = c.self.inside.words.ok.0 in
    omega (arith, n, count, len)

pub returns-in_err-place : goal.returns-in_err-place
returns-in_err-place c =
    let P : List Bool → Type 0 = λ xs. HasNoneIn xs (c.args.number / 64 * 64) c.args.number in
    let n = bound_of c.self.inside.len c.self.inside.words.items _ c.self.view_is in
    let count = c.self.invariant.count in
    let len = c.self.inside.words.ok.0 in
    let here = get_or_read c.self.inside.words.items (c.args.number / 64) c.index.result.now (omega (arith, n, count, len)) c.index.ensures 0 in
    let kept : (p : ℕ) → c.args.number / 64 * 64 + p < c.args.number → bit_at c.below.result p
    ≡ bit_at (get_or c.self.inside.words.items (c.args.number / 64) 0) p =
    λ p l. rw (sym here) (c.below.ensures.kept p (omega arith)) in
    rw c.from_residual.ensures (subst P c.self.view_is
    (none_in_word c.self.inside.len c.self.inside.words.items c.self.invariant (c.args.number / 64) c.args.number c.below.result
    (omega arith) kept c.in_err-place.ensures))

pub returns : goal.returns
returns c =
    let P : List Bool → Type 0 = λ xs. IsLastIn xs (c.args.number / 64 * 64) c.args.number (c.args.number / 64 * 64 + c.in_ok-place.place) in
    let n = bound_of c.self.inside.len c.self.inside.words.items _ c.self.view_is in
    let count = c.self.invariant.count in
    let len = c.self.inside.words.ok.0 in
    let here = get_or_read c.self.inside.words.items (c.args.number / 64) c.index.result.now (omega (arith, n, count, len)) c.index.ensures 0 in
    let kept : (p : ℕ) → c.args.number / 64 * 64 + p < c.args.number → bit_at c.below.result p
    ≡ bit_at (get_or c.self.inside.words.items (c.args.number / 64) 0) p =
    λ p l. rw (sym here) (c.below.ensures.kept p (omega arith)) in
    let place = c.in_ok-place.ensures in
    let none = c.below.ensures.none c.in_ok-place.place in
    let inside : c.in_ok-place.place < c.args.number % 64 = elim (cases_lt c.in_ok-place.place (c.args.number % 64)) [
      | inl l ↦ l
      | inr g ↦ absurd (omega (arith, none g, place.1))
    ] in
    subst P c.self.view_is (last_in_word_is c.self.inside.len c.self.inside.words.items c.self.invariant (c.args.number / 64)
    c.args.number c.below.result c.in_ok-place.place
    (omega arith) (omega arith) kept place.0 place.1 place.2)
