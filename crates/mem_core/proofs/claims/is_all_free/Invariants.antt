-- What the loop of `is_all_free` keeps.
use Rattle.std.proofs.Common.{◌≡◌, ◌<◌, ◌≤◌, ℕ, true}
use Rattle.step_rules.specs.Phases.{is_free}
use Rattle.mem_core.specs.Rows.{state_in}
use Rattle.mem_core.proofs.claims.is_all_free.Given as goal

abbrev pub invariant-loop-frame : goal.invariant-loop-frame
invariant-loop-frame l = (i : ℕ) → l.block.at ≤ i → i < l.frame → is_free ((state_in l.rows).phases i) ≡ true
