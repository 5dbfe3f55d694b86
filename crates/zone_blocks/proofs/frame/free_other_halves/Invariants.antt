use Rattle.zone_blocks.proofs.Around.{HalvedAround}
use Rattle.zone_blocks.proofs.frame.free_other_halves.Given as goal

abbrev pub invariant-loop-exponent : goal.invariant-loop-exponent
invariant-loop-exponent l = HalvedAround l.initial.areas l.block l.frame l.areas l.at l.exponent

abbrev pub decreases-loop-exponent : goal.decreases-loop-exponent
decreases-loop-exponent l = l.exponent
