use Rattle.std.proofs.Common.{w64, arith}
use Rattle.std.proofs.lemmas.Bool.{both_ways}
use Rattle.std.proofs.lemmas.Nat.Bits.{bit_at_set_same, bit_at_set_other, bit_at_clear_same, bit_at_clear_other}
use Rattle.bit_levels.proofs.word.with.Goals as goal

pub returns-then-value-clause-here : goal.returns-then-value-clause-here
returns-then-value-clause-here c = ((λ _. c.if-value.true), (λ _. bit_at_set_same w64 _ _ c.requires))

pub returns-then-value-clause-others : goal.returns-then-value-clause-others
returns-then-value-clause-others c = λ i l ne. bit_at_set_other w64 _ _ c.requires i ne

pub returns-else-value-clause-here : goal.returns-else-value-clause-here
returns-else-value-clause-here c =
    let clear = bit_at_clear_same w64 c.args.word c.args.place c.requires in
    ((λ one. absurd (omega (arith, clear, one))), (λ t. absurd (both_ways _ c.if-value.false t)))

pub returns-else-value-clause-others : goal.returns-else-value-clause-others
returns-else-value-clause-others c = bit_at_clear_other w64 _ _ c.requires
