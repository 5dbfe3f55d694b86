-- Lists of local steps: what a CPU that holds the lock and the zone's seat do together, whatever others do meanwhile.
use Rattle.std.specs.Prelude.{◌≡◌, ℕ, ◌==◌, ◌++◌, ◌||◌, Bool, true, false, [], ◌∷◌, filter, take, slice_get, IfSome}
use Rattle.step_rules.specs.declared.step.Action.{Action}
use Rattle.step_rules.specs.declared.step.Answer.{Answer}
use Rattle.step_rules.specs.State.{Zone, State}
use Rattle.step_rules.specs.Legal.{IsCounted, Allows}
use Rattle.step_rules.specs.After.{Run, after, state_of}
use Rattle.step_rules.specs.Laws.{ShowsLocal, IsLocalStep}

-- each step of the list is a local step of the CPU at the state before it, with an answer allowed there, and together
-- they lead from a to b
abbrev pub IsLocalRun : ℕ → State → Run → State → Type 0
IsLocalRun cpu a [] b = a ≡ b
IsLocalRun cpu a (e ∷ steps) b = IsLocalStep a cpu e.0.seat e.0.action e.1
    × IsLocalRun cpu (after a e.0.seat e.0.action e.1) steps b

-- the seat is the zone's own or the CPU's
abbrev pub is_own : ℕ → ℕ → Bool
is_own cpu seat = seat == 0 || seat == cpu

-- the steps of a list that the CPU and the zone's seat make, in their order
abbrev pub own_steps : ℕ → Run → Run
own_steps cpu run = filter (λ e. is_own cpu e.0.seat) run

-- A pair may follow in this state: a step of another CPU is allowed, and a step of the CPU or the zone's seat has the
-- answer that others' references and stocks decide.
pub record MayFollow (cpu : ℕ) (s : State) (seat : ℕ) (action : Action) (answer : Answer) : Type 0 where
  pub other : is_own cpu seat ≡ false → Allows s seat action answer
  pub own : is_own cpu seat ≡ true → IsCounted s action answer

-- after the run each pair of the list may follow those before it
abbrev pub IsInterleaved : Zone → Run → ℕ → Run → Type 0
IsInterleaved zone run cpu mixed = (k : ℕ)
    → IfSome (slice_get mixed k) (λ e. MayFollow cpu (state_of zone (run ++ take k mixed)) e.0.seat e.0.action e.1)

-- After a run that shows a CPU a local state, local steps that lead to another, with any allowed steps of other CPUs
-- between them, make a legal run. It shows the CPU that other state.
abbrev pub LocalRunsInterleave : Type 0
LocalRunsInterleave = (zone : Zone) (run : Run) (cpu : ℕ) (a : State) (mixed : Run) (b : State)
    → ShowsLocal zone run cpu a → IsLocalRun cpu a (own_steps cpu mixed) b → IsInterleaved zone run cpu mixed
    → ShowsLocal zone (run ++ mixed) cpu b

-- a list of local steps from a to b, then one from b to c, is a list of local steps from a to c
abbrev pub LocalRunsCompose : Type 0
LocalRunsCompose = (cpu : ℕ) (a : State) (first : Run) (b : State) (second : Run) (c : State)
    → IsLocalRun cpu a first b → IsLocalRun cpu b second c → IsLocalRun cpu a (first ++ second) c
