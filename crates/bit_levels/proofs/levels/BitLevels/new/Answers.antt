use Rattle.std.proofs.Common.{refl}
use Rattle.bit_levels.proofs.Summaries.{empty_summary}
use Rattle.bit_levels.proofs.levels.BitLevels.new.Goals as goal

pub invariant_of-result : goal.invariant_of-result
invariant_of-result c = (
  empty_summary _ _ _ _ c.in_ok-bits.ensures c.in_ok-summary.ensures refl,
  empty_summary _ _ _ _ c.in_ok-summary.ensures c.in_ok-top.ensures refl,
)
