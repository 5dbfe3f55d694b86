-- The place of a frame, as Owner reports it.
use Rattle.std.specs.Prelude.{◌≡◌, ℕ}
use Rattle.mem_machine.specs.declared.frame_state.Place.TheVariants as place
use Rattle.mem_machine.specs.{frame_state_at, place_of, KnownMachine}
use Rattle.mem_system.specs.declared.outcome.Outcome.{Outcome}
use Rattle.mem_system.specs.declared.outcome.Outcome.TheVariants.{Free, Lent, Charged}

-- Owner: the place of the frame, with the group that it is charged to
abbrev pub ReportsPlace : KnownMachine → (frame : ℕ) → Outcome → Type 0
ReportsPlace machine frame Free = place_of (frame_state_at machine.frame_states frame) ≡ place.Free
ReportsPlace machine frame (Lent cpu) = place_of (frame_state_at machine.frame_states frame) ≡ place.Lent cpu
ReportsPlace machine frame (Charged group) =
    place_of (frame_state_at machine.frame_states frame) ≡ place.Charged group
ReportsPlace machine frame other = ⊥
