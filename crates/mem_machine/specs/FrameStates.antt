-- What a frame's record says of it, and which units the records make up.
use Rattle.std.specs.Prelude.{◌≡◌, ℕ, ◌+◌, ◌^◌, ◌<◌, ◌==◌, Bool, true, false, Option, Some, None, List, length, map, if◌then◌else◌}
use Rattle.std.specs.List.{slice_index_or}
use Rattle.zone_blocks.specs.Block.{IsBlock}
use Rattle.step_rules.specs.declared.phase.ChargedUnit.{ChargedUnit}
use Rattle.step_rules.specs.declared.phase.Way.TheVariants.{OnList}
use Rattle.step_rules.specs.declared.phase.Stage.TheVariants.{Live}
use Rattle.step_rules.specs.declared.phase.Phase.{Phase}
use Rattle.step_rules.specs.declared.phase.Phase.TheVariants as phase
use Rattle.mem_machine.specs.declared.frame_state.FrameState.{FrameState}
use Rattle.mem_machine.specs.declared.frame_state.FrameState.TheVariants.{Free, Lent, Head, Tail}
use Rattle.mem_machine.specs.declared.frame_state.Place.{Place}
use Rattle.mem_machine.specs.declared.frame_state.Place.TheVariants as place

-- the record of the frame; Free past the last frame
abbrev pub frame_state_at : List FrameState → ℕ → FrameState
frame_state_at frame_states frame = slice_index_or frame_states frame Free

-- the frame is in the free areas
abbrev pub is_free_state : FrameState → Bool
is_free_state Free = true
is_free_state _ = false

-- which frames are free
abbrev pub free_of : List FrameState → List Bool
free_of frame_states = map is_free_state frame_states

-- the phase of a frame with this record, with every CPU's own frames hidden: a lent frame is on the CPU's list
abbrev pub phase_hidden : FrameState → Phase
phase_hidden Free = phase.InZone
phase_hidden (Lent cpu) = phase.Lent cpu OnList
phase_hidden (Head unit) = phase.Head unit Live
phase_hidden (Tail group) = phase.Tail group

-- the unit that the frame heads
abbrev pub headed_unit : FrameState → Option ChargedUnit
headed_unit (Head unit) = Some unit
headed_unit _ = None

-- the group that the frame is charged to
abbrev pub frame_state_group : FrameState → Option ℕ
frame_state_group (Head unit) = Some unit.group
frame_state_group (Tail group) = Some group
frame_state_group _ = None

-- the group of the unit that the frame heads
abbrev pub head_group_of : FrameState → Option ℕ
head_group_of (Head unit) = Some unit.group
head_group_of _ = None

-- the place of the frame: free, lent to a CPU, or charged to a group
abbrev pub place_of : FrameState → Place
place_of Free = place.Free
place_of (Lent cpu) = place.Lent cpu
place_of (Head unit) = place.Charged unit.group
place_of (Tail group) = place.Charged group

-- 1 if the number is the wanted one, else 0
abbrev pub one_if_is : ℕ → Option ℕ → ℕ
one_if_is wanted None = 0
one_if_is wanted (Some number) = if number == wanted then 1 else 0

-- the unit's frames are a block of the zone, and all but the head are tails of the unit's group
pub record IsUnitAt (frame_states : List FrameState) (frame : ℕ) (unit : ChargedUnit) : Type 0 where
  pub block : IsBlock (length frame_states) (record { at = frame; order = unit.order })
  pub tails : (tail : ℕ) → frame < tail → tail < frame + 2 ^ unit.order
      → frame_state_at frame_states tail ≡ Tail unit.group

-- the frame is in a unit of the group, and isn't its head
pub record IsTailOf (frame_states : List FrameState) (frame owner : ℕ) : Type 0 where
  pub head : ℕ
  pub unit : ChargedUnit
  pub heads : frame_state_at frame_states head ≡ Head unit
  pub group : unit.group ≡ owner
  pub from : head < frame
  pub before : frame < head + 2 ^ unit.order

-- each head has its unit, and each tail is in a unit
pub record AreUnits (frame_states : List FrameState) : Type 0 where
  pub heads : (frame : ℕ) (unit : ChargedUnit) → frame_state_at frame_states frame ≡ Head unit
      → IsUnitAt frame_states frame unit
  pub tails : (frame group : ℕ) → frame_state_at frame_states frame ≡ Tail group → IsTailOf frame_states frame group
