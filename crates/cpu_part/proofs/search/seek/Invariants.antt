use Rattle.std.proofs.Common.{◌≡◌, ◌≤◌, length, drop}
use Rattle.step_rules.specs.State.{times}
use Rattle.cpu_part.proofs.search.seek.Given as goal

abbrev pub invariant-loop-end : goal.invariant-loop-end
invariant-loop-end l = (l.end ≤ length l.frames) × (times l.frame (drop l.end l.frames) ≡ 0)

abbrev pub decreases-loop-end : goal.decreases-loop-end
decreases-loop-end l = l.end
