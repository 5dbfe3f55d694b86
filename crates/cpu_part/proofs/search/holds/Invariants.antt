use Rattle.std.proofs.Common.{◌≡◌, false, take}
use Rattle.step_rules.specs.State.{times}
use Rattle.cpu_part.proofs.search.holds.Given as goal

abbrev pub invariant-loop-other : goal.invariant-loop-other
invariant-loop-other l = l.is_there ≡ false → times l.frame (take l.other-index l.block) ≡ 0
