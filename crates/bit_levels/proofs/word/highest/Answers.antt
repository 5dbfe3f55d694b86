use Rattle.std.proofs.Common.{◌≡◌, ◌+◌, ◌/◌, ◌^◌, arith}
use Rattle.std.proofs.lemmas.Nat.{pow-add}
use Rattle.std.proofs.lemmas.Nat.Bits.{bit_at_above}
use Rattle.std.proofs.Math.Nat.{div-eq_of_lt-le}
use Rattle.bit_levels.proofs.word.highest.Goals as goal

pub returns-else-word-eq0 : goal.returns-else-word-eq0
returns-else-word-eq0 c =
    let r = c.ilog2.result in
    let low = c.ilog2.ensures.power_le in
    let high = c.ilog2.ensures.next_power_gt in
    let twice = pow-add 2 r 1 in
    let one : c.args.word / 2 ^ r ≡ 1 = div-eq_of_lt-le (2 ^ r) (omega arith) (omega arith) in
    (c.ilog2.ensures.bound, rw one (omega arith), λ i l. bit_at_above c.args.word (r + 1) i (omega arith) (omega arith))
