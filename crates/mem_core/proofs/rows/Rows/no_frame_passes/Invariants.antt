-- What the loop of `no_frame_passes` keeps.
use Rattle.std.proofs.Common.{◌≡◌, ◌<◌, ℕ, true}
use Rattle.std.specs.Prelude.{not}
use Rattle.step_rules.specs.Phases.{is_passing}
use Rattle.mem_core.specs.Rows.{state_in}
use Rattle.mem_core.proofs.rows.Rows.no_frame_passes.Given as goal

abbrev pub invariant-loop-frame : goal.invariant-loop-frame
invariant-loop-frame l = (i : ℕ) → i < l.frame → not (is_passing ((state_in l.self).phases i)) ≡ true
