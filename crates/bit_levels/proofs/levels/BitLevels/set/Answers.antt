use Rattle.std.proofs.Common.{◌≡◌, ◌/◌, List, Bool, ℕ, length, ap, refl, arith}
use Rattle.bit_levels.proofs.Summaries.{summary_set}
use Rattle.bit_levels.proofs.levels.BitLevels.set.Goals as goal

pub invariant_of-self : goal.invariant_of-self
invariant_of-self c =
    let size : List Bool → ℕ = λ xs. length xs in
    let n : length c.self.inside.bits ≡ length c.args.self.now = ap size c.self.view_is in
    let count = c.self.invariant.0.count in
    let first = summary_set c.self.inside.bits c.self.inside.summary c.self.invariant.0 c.args.number (c.args.number / 64)
    c.args.value c.has_in_word-has.result refl
    (omega (arith, n)) (rw c.set.ensures at c.has_in_word-has.ensures) in
    let second = summary_set c.self.inside.summary c.self.inside.top c.self.invariant.1 (c.args.number / 64) (c.args.number / 64 / 64)
    c.has_in_word-has.result c.has_in_word.result refl (omega (arith, n, count)) (rw c.set-2.ensures at c.has_in_word.ensures) in
    (rw (c.set.ensures, c.set-2.ensures) first, rw (c.set-2.ensures, c.set-3.ensures) second)
