-- A frame is lent only to a CPU of the zone, and is in transit only in that CPU's visit. A beginning of a legal run is
-- legal.
use Rattle.std.specs.Prelude.{◌≡◌, ℕ, ◌||◌, true, Option, Some, None, take}
use Rattle.step_rules.specs.declared.phase.Phase.{Phase}
use Rattle.step_rules.specs.declared.phase.Phase.TheVariants.{Lent}
use Rattle.step_rules.specs.declared.phase.Hold.TheVariants.{Visiting}
use Rattle.step_rules.specs.Phases.{passes_out, passes_back}
use Rattle.step_rules.specs.State.{Zone, is_cpu}
use Rattle.step_rules.specs.After.{Run, state_of, IsLegalRun}

-- the CPU to which a frame is lent in this phase
abbrev pub lent_to : Phase → Option ℕ
lent_to (Lent cpu way) = Some cpu
lent_to _ = None

-- after every legal run a lent frame is lent to a CPU of the zone
abbrev pub FramesAreLentToCpus : Type 0
FramesAreLentToCpus = (zone : Zone) (run : Run) → IsLegalRun zone run → (f cpu : ℕ)
    → lent_to ((state_of zone run).phases f) ≡ Some cpu → is_cpu zone cpu ≡ true

-- after every legal run a frame is in transit to or from a CPU only while that CPU's visit is open
abbrev pub FramesPassInVisits : Type 0
FramesPassInVisits = (zone : Zone) (run : Run) → IsLegalRun zone run → (f cpu : ℕ)
    → (passes_out cpu ((state_of zone run).phases f) || passes_back cpu ((state_of zone run).phases f)) ≡ true
    → (state_of zone run).hold ≡ Visiting cpu

-- each beginning of a legal run is a legal run
abbrev pub BeginningsAreLegal : Type 0
BeginningsAreLegal = (zone : Zone) (run : Run) → IsLegalRun zone run → (k : ℕ) → IsLegalRun zone (take k run)
