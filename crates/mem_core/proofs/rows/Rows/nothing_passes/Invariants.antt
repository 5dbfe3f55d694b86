-- What the loop of `nothing_passes` keeps.
use Rattle.std.proofs.Common.{◌≡◌, ◌<◌, ℕ, true}
use Rattle.step_rules.specs.Legal.{rests}
use Rattle.mem_core.specs.Rows.{state_in}
use Rattle.mem_core.proofs.rows.Rows.nothing_passes.Given as goal

abbrev pub invariant-loop-frame : goal.invariant-loop-frame
invariant-loop-frame l = (i : ℕ) → i < l.frame → rests (state_in l.self) l.cpu i ≡ true
