-- No frame before this one is in transit to or from the CPU.
use Rattle.std.proofs.Common.{◌≡◌, ◌<◌, ℕ, true}
use Rattle.step_rules.specs.Legal.{rests}
use Rattle.mem_core.specs.Rows.{state_in}
use Rattle.log_check.proofs.showing.show_passing_at.Given as goal

abbrev pub invariant-loop-frame : goal.invariant-loop-frame
invariant-loop-frame l = (i : ℕ) → i < l.frame → rests (state_in l.rows) l.cpu i ≡ true
