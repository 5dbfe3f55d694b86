-- Units that are freed.
use Rattle.std.specs.Prelude.{◌≡◌, ℕ, List, length, if◌then◌else◌}
use Rattle.step_rules.specs.After.{is_within}
use Rattle.mem_machine.specs.declared.frame_state.FrameState.{FrameState}
use Rattle.mem_machine.specs.declared.frame_state.FrameState.TheVariants.{Free}
use Rattle.mem_machine.specs.FrameStates.{frame_state_at}

-- this many frames from `at` on are free, and all other frames keep their records
pub record FreesFrames (at count : ℕ) (before after : List FrameState) : Type 0 where
  pub frames : length after ≡ length before
  pub records : (frame : ℕ) → frame_state_at after frame
      ≡ (if is_within at count frame then Free else frame_state_at before frame)
