-- A frame has references exactly if it is live, and then 1 to 255.
use Rattle.std.specs.Prelude.{◌≡◌, ℕ, ◌≤◌, true, false}
use Rattle.step_rules.specs.Phases.{is_live_phase}
use Rattle.step_rules.specs.State.{Zone, State, live_references, most_references}
use Rattle.step_rules.specs.After.{Run, state_of, IsLegalRun}

-- a frame that isn't live has no reference of any seat, and a live one has 1 to 255 in all
pub record LiveIsReferenced (s : State) (f : ℕ) : Type 0 where
  pub none : is_live_phase (s.phases f) ≡ false → (seat : ℕ) → s.references seat f ≡ 0
  pub some : is_live_phase (s.phases f) ≡ true → (1 ≤ live_references s f) × (live_references s f ≤ most_references)

-- after every legal run a frame that isn't live has no reference, and a live one has 1 to 255
abbrev pub AllLiveAreReferenced : Type 0
AllLiveAreReferenced = (zone : Zone) (run : Run) → IsLegalRun zone run
    → (f : ℕ) → LiveIsReferenced (state_of zone run) f
