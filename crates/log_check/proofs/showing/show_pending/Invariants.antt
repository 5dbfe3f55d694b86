-- No page is pending for a lesser group.
use Rattle.std.proofs.Common.{◌≡◌, ◌<◌, ◌==◌, ℕ, true}
use Rattle.mem_core.specs.Rows.{state_in}
use Rattle.log_check.proofs.showing.show_pending.Given as goal

abbrev pub invariant-loop-index : goal.invariant-loop-index
invariant-loop-index l = (i : ℕ) → i < l.index → ((state_in l.rows).pending i == 0) ≡ true
