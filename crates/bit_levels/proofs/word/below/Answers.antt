use Rattle.std.proofs.Common.{◌^◌, ◌-◌, arith}
use Rattle.std.proofs.lemmas.Nat.{one_shl}
use Rattle.std.proofs.lemmas.Nat.Bits.{bit_at_and, bit_at_ones, bit_at_ones_above, bit_at-lt}
use Rattle.bit_levels.proofs.word.below.Goals as goal

pub returns-clause-kept : goal.returns-clause-kept
returns-clause-kept c = λ i l.
    let shl = one_shl c.args.place 64 c.requires in
    rw shl (let a = bit_at_and c.args.word (2 ^ c.args.place - 1) i in
    let o = bit_at_ones c.args.place i l in
    let b = bit_at-lt c.args.word i in
    omega (arith, a, o, b))

pub returns-clause-none : goal.returns-clause-none
returns-clause-none c = λ i l.
    let shl = one_shl c.args.place 64 c.requires in
    rw shl (let a = bit_at_and c.args.word (2 ^ c.args.place - 1) i in
    let o = bit_at_ones_above c.args.place i l in
    omega (arith, a, o))
