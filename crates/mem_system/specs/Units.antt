-- What the commands on one kept unit do. The unit is named by its head, which is on a list of its group.
use Rattle.std.specs.Prelude.{◌≡◌, ℕ, Bool, None, []}
use Rattle.group_tree.specs.declared.fault.Fault.TheVariants.{NotKept}
use Rattle.lru_lists.specs.declared.lru.Touched.TheVariants as touched
use Rattle.mem_machine.specs.{KnownMachine, HeadsKeptUnit, home_of, TouchesUnit, Dirties, Transition, MachineStays}
use Rattle.mem_system.specs.declared.outcome.Outcome.{Outcome}
use Rattle.mem_system.specs.declared.outcome.Outcome.TheVariants.{Done, Marked, Active, Refused}

-- the frame found has this number, and heads a kept unit
pub record IsUnitOf (machine : KnownMachine) (number found : ℕ) : Type 0 where
  pub same : found ≡ number
  pub heads : HeadsKeptUnit machine found

-- the frame heads no kept unit, and nothing changed
pub record HeadsNoUnit (frame : ℕ) (call : Transition KnownMachine) : Type 0 where
  pub on_no_list : home_of call.before.links frame ≡ None
  pub stays : MachineStays call

-- an act on the unit that a frame heads: it makes no step
pub record MakesNoStep (Does : Transition KnownMachine → Type 0) (call : Transition KnownMachine) : Type 0 where
  pub does : Does call
  pub steps_are : call.steps ≡ []
  pub run : call.after.run ≡ call.before.run

-- Touch: the unit is marked, on the inactive list; or it moved, unmarked, to the newest end of the active list; or the
-- frame heads no kept unit
abbrev pub TouchesFrame : (frame : ℕ) → Outcome → Transition KnownMachine → Type 0
TouchesFrame frame Marked call = TouchesUnit frame touched.Marked call.before call.after
TouchesFrame frame Active call = TouchesUnit frame touched.Active call.before call.after
TouchesFrame frame (Refused NotKept) call = HeadsNoUnit frame call
TouchesFrame frame other call = ⊥

-- Dirty and Clean: the unit is noted as dirty or clean, or the frame heads no kept unit
abbrev pub NotesDirt : (frame : ℕ) (is_dirty : Bool) → Outcome → Transition KnownMachine → Type 0
NotesDirt frame is_dirty Done call = Dirties frame is_dirty call.before call.after
NotesDirt frame is_dirty (Refused NotKept) call = HeadsNoUnit frame call
NotesDirt frame is_dirty other call = ⊥
