-- How a past grows by several steps, and what the pasts of all seats say of the run together.
use Rattle.std.specs.Prelude.{[], ◌≡◌, ◌≢◌, ◌⊎◌, ℕ, suc, ◌+◌, ◌==◌, ◌&&◌, not, Bool, true, false, Some, List, ◌∷◌, ◌++◌, length, slice_get, slice_set}
use Rattle.step_rules.specs.declared.step.Step.{Step}
use Rattle.step_rules.specs.declared.step.Answer.{Answer}
use Rattle.step_rules.specs.declared.step.Answer.TheVariants.{Drained, Full, Illegal, Zero}
use Rattle.step_rules.specs.{Zone, one_if, Run, state_of, IsLegalRun}
use Rattle.boot_words.specs.Runs.{HasNoStepOf, GrewBy}
use Rattle.boot_words.specs.declared.past.Past.{Past}
use Rattle.boot_words.specs.Rule.{AllOf, IsPastOf}

-- the past has grown by these steps with their answers, each after steps of others
abbrev pub GrewByAll : Past → Run → Past → Type 0
GrewByAll before [] later = later ≡ before
GrewByAll before (made ∷ rest) later =
    (between : Past) × GrewBy before made.0 made.1 between × GrewByAll between rest later

-- the past has seen more of the run: steps of others alone
pub record SeesMore (before later : Past) : Type 0 where
  pub between : Run
  pub others : HasNoStepOf before.number between
  pub number : later.number ≡ before.number
  pub seen : later.seen ≡ before.seen ++ between

-- An answer with which no step changes the state. Of the steps that are refused so, only a get is named by the answer of
-- a command, which says `zero` or `full` then.
abbrev pub changes_nothing : Answer → Bool
changes_nothing Illegal = true
changes_nothing Zero = true
changes_nothing Full = true
changes_nothing Drained = true
changes_nothing answer = false

-- how many steps of this seat the run has, apart from those whose answer changes nothing
abbrev pub changes_of : ℕ → Run → ℕ
changes_of seat [] = 0
changes_of seat (made ∷ run) = one_if (made.0.seat == seat && not (changes_nothing made.1)) + changes_of seat run

-- the steps are the run, in its order, without some steps of which `IsLeftOut` holds
abbrev pub IsRunWithout : (IsLeftOut : Step × Answer → Type 0) → (run steps : Run) → Type 0
IsRunWithout IsLeftOut [] steps = steps ≡ []
IsRunWithout IsLeftOut (made ∷ run) steps = (IsLeftOut made × IsRunWithout IsLeftOut run steps)
    ⊎ ((rest : Run) × (steps ≡ made ∷ rest) × IsRunWithout IsLeftOut run rest)

-- the run has these steps, in this order, and others anywhere among them
abbrev pub HasInOrder : (run steps : Run) → Type 0
HasInOrder run steps = IsRunWithout (λ made. Unit {0}) run steps

-- the steps are the run without some steps whose answer changes nothing
abbrev pub AreChangesOf : (run steps : Run) → Type 0
AreChangesOf run steps = IsRunWithout (λ made. changes_nothing made.1 ≡ true) run steps

-- What the zone's past and a CPU's past gain by these steps of the CPU and of the zone's seat. Whatever steps the zone's
-- past had in order, it now has these after them. Each of the two has made as many changes more as these steps have.
pub record GainsSteps (zone cpu : Past) (steps : Run) (zone' cpu' : Past) : Type 0 where
  pub zone_number : zone'.number ≡ zone.number
  pub cpu_number : cpu'.number ≡ cpu.number
  pub in_order : (earlier : Run) → HasInOrder zone.seen earlier → HasInOrder zone'.seen (earlier ++ steps)
  pub of_zone : changes_of 0 zone'.seen ≡ changes_of 0 zone.seen + changes_of 0 steps
  pub of_cpu : changes_of cpu.number cpu'.seen ≡ changes_of cpu.number cpu.seen + changes_of cpu.number steps
  pub of_others : (other : ℕ) → other ≢ 0 → other ≢ cpu.number → changes_of other steps ≡ 0

-- The run so far, by the pasts of the zone and of all CPUs. The zone's past has these steps, in this order, and each past
-- has made as many changes as the steps have of its seat.
pub record IsRunSoFar (steps : Run) (zone : Past) (cpus : List Past) : Type 0 where
  pub in_order : HasInOrder zone.seen steps
  pub of_zone : changes_of 0 zone.seen ≡ changes_of 0 steps
  pub number : (index : ℕ) (cpu : Past) → slice_get cpus index ≡ Some cpu → cpu.number ≡ suc index
  pub of_cpu : (index : ℕ) (cpu : Past) → slice_get cpus index ≡ Some cpu
      → changes_of (suc index) cpu.seen ≡ changes_of (suc index) steps

-- Without a step, the pasts of all seats are the run so far.
abbrev pub ABootHasNoSteps : Type 0
ABootHasNoSteps = (zone : Past) (cpus : List Past) → zone.seen ≡ []
    → ((index : ℕ) (cpu : Past) → slice_get cpus index ≡ Some cpu → (cpu.number ≡ suc index) × (cpu.seen ≡ []))
    → IsRunSoFar [] zone cpus

-- If a CPU and the zone gain steps, the run so far goes on by them.
abbrev pub GainsGoOn : Type 0
GainsGoOn = (earlier steps : Run) (zone zone' : Past) (cpus : List Past) (index : ℕ) (cpu cpu' : Past)
    → IsRunSoFar earlier zone cpus → slice_get cpus index ≡ Some cpu → GainsSteps zone cpu steps zone' cpu'
    → IsRunSoFar (earlier ++ steps) zone' (slice_set cpus index cpu')

-- At the end, when a legal run has the pasts of all seats as its beginnings, after each of which no step of its seat
-- follows: the run so far is that legal run, without steps whose answer changes nothing. So it is legal too, and leads to
-- the same state.
abbrev pub TheRunSoFarIsLegal : Type 0
TheRunSoFarIsLegal = (zone : Zone) (run steps : Run) (z : Past) (cpus : List Past) → IsLegalRun zone run → z.number ≡ 0
    → length cpus ≡ zone.cpus → AllOf (IsPastOf run) (z ∷ cpus) → IsRunSoFar steps z cpus
    → IsLegalRun zone steps × (state_of zone steps ≡ state_of zone run)
