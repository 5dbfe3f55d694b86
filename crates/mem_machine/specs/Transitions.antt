-- How a call is described by its steps.
use Rattle.std.specs.Prelude.{◌≡◌, [], ◌++◌}
use Rattle.step_rules.specs.After.{Run}
use Rattle.boot_words.specs.Tables.{KnownTable}
use Rattle.mem_machine.specs.Machines.{KnownMachine, VisitState}

-- The transition of a call at a table: the state before, its steps with their answers, and the state after. The state
-- is a visit state, or the machine alone.
pub record Transition (S : Type 0) : Type 0 where
  pub table : KnownTable
  pub before : S
  pub steps : Run
  pub after : S

-- the transition with these parts
abbrev pub transition : {S : Type 0} → KnownTable → S → Run → S → Transition S
transition table before steps after = record { table = table; before = before; steps = steps; after = after }

-- the transition of the machine alone
abbrev pub of_machine : Transition VisitState → Transition KnownMachine
of_machine call = transition call.table call.before.machine call.steps call.after.machine

-- `Does` holds of the machine's transition, whatever happens to the CPU's part
abbrev pub OfMachine : (Transition KnownMachine → Type 0) → Transition VisitState → Type 0
OfMachine Does call = Does (of_machine call)

-- `Does` holds of the machine's transition, and the CPU's part stays the same
pub record OfMachineAlone (Does : Transition KnownMachine → Type 0) (call : Transition VisitState) : Type 0 where
  pub does : Does (of_machine call)
  pub cpu : call.after.cpu ≡ call.before.cpu

-- One thing is done after another. The second begins with what the first left, and the steps are those of the first
-- followed by those of the second.
pub record InTurn {S : Type 0} (First Second : Transition S → Type 0) (call : Transition S) : Type 0 where
  pub between : S
  pub earlier : Run
  pub later : Run
  pub first : First (transition call.table call.before earlier between)
  pub second : Second (transition call.table between later call.after)
  pub steps_are : call.steps ≡ earlier ++ later

-- the call finds a state of which `Is` holds, and `Does` holds of the transition
pub record Finds {S : Type 0} (Is : S → Type 0) (Does : Transition S → Type 0)
    (call : Transition S) : Type 0 where
  pub is : Is call.before
  pub does : Does call

-- Some list of steps leads from one state to the other, as `AreMade` says: `VisitMakes` of a visit state, `Makes` of
-- the machine alone. `Does` holds of that transition.
pub record BySteps {S : Type 0} (AreMade : KnownTable → S → Run → S → Type 0) (table : KnownTable)
    (Does : Transition S → Type 0) (before after : S) : Type 0 where
  pub steps : Run
  pub does : Does (transition table before steps after)
  pub makes : AreMade table before steps after

-- nothing of the machine changed, and no step was made
pub record MachineStays (call : Transition KnownMachine) : Type 0 where
  pub machine : call.after ≡ call.before
  pub steps_are : call.steps ≡ []

-- nothing changed, and no step was made
pub record Stays (call : Transition VisitState) : Type 0 where
  pub machine : call.after.machine ≡ call.before.machine
  pub cpu : call.after.cpu ≡ call.before.cpu
  pub steps_are : call.steps ≡ []
