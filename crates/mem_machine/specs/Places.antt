-- How many frames are at each place.
use Rattle.std.specs.Prelude.{◌≢◌, ℕ, List, is_some, sum_by}
use Rattle.step_rules.specs.State.{one_if}
use Rattle.mem_machine.specs.declared.frame_state.FrameState.{FrameState}
use Rattle.mem_machine.specs.declared.frame_state.FrameState.TheVariants.{Lent}
use Rattle.mem_machine.specs.FrameStates.{is_free_state, frame_state_group, frame_state_at}

-- how many frames are free
abbrev pub frames_free : List FrameState → ℕ
frames_free frame_states = sum_by (λ frame_state. one_if (is_free_state frame_state)) frame_states

-- how many frames are charged to a group
abbrev pub frames_in_groups : List FrameState → ℕ
frames_in_groups frame_states = sum_by (λ frame_state. one_if (is_some (frame_state_group frame_state))) frame_states

-- no frame is lent to the CPU
abbrev pub NoneLentTo : ℕ → List FrameState → Type 0
NoneLentTo cpu frame_states = (frame : ℕ) → frame_state_at frame_states frame ≢ Lent cpu
