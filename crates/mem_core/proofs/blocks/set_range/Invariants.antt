-- What the loop of `set_range` keeps.
use Rattle.std.proofs.Common.{◌≡◌, ◌-◌}
use Rattle.mem_core.proofs.Ranges.{ranged}
use Rattle.mem_core.proofs.blocks.set_range.Given as goal

abbrev pub invariant-loop-frame : goal.invariant-loop-frame
invariant-loop-frame l = l.phases ≡ ranged l.fn.phases l.at (l.frame - l.at) l.phase
