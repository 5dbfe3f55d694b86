-- What Mkdir and Rmdir do, and their replies.
use Rattle.std.specs.Prelude.{◌≡◌, ℕ, ◌≤◌, Some, None, List, ◌++◌}
use Rattle.group_tree.specs.Groups.{make_fault}
use Rattle.group_tree.specs.declared.fault.Fault.TheVariants.{Busy}
use Rattle.group_charge.specs.Charges.{current_of, with_group_removed}
use Rattle.step_rules.specs.After.{Run}
use Rattle.mem_machine.specs.{KnownMachine, AddsGroup, make_steps, remove_steps, Transition, MachineStays, transition}
use Rattle.mem_system.specs.declared.outcome.Outcome.{Outcome}
use Rattle.mem_system.specs.declared.outcome.Outcome.TheVariants.{Group, Done, Refused}
use Rattle.mem_system.specs.Leaves.{IsLeaf, IsNoLeaf}
use Rattle.mem_system.specs.Usage.{LowersUsage}

-- no refusal applies, and the machine makes the group of this path with this number
pub record MakesNewGroup (path : List ℕ) (number : ℕ) (call : Transition KnownMachine) : Type 0 where
  pub no_fault : make_fault call.before.ledger.groups path ≡ None
  pub adds : AddsGroup number path call.before call.after
  pub steps_are : call.steps ≡ make_steps path number

-- Mkdir: the group is made; or it is refused for the first cause that holds, and nothing changed
abbrev pub MakesGroup : (path : List ℕ) → Outcome → Transition KnownMachine → Type 0
MakesGroup path (Group number) call = MakesNewGroup path number call
MakesGroup path (Refused fault) call = (make_fault call.before.ledger.groups path ≡ Some fault) × MachineStays call
MakesGroup path other call = ⊥

-- the usage of the group is lowered to 0, and the group is removed
pub record RemovesGroup (group : ℕ) (call : Transition KnownMachine) : Type 0 where
  pub leaf : IsLeaf call.before.ledger.groups group
  pub lowering : Run
  pub emptied : KnownMachine
  pub lowers : LowersUsage group 0 (transition call.table call.before lowering emptied)
  pub empty : current_of emptied.ledger group ≡ 0
  pub machine : call.after
      ≡ record emptied { ledger = with_group_removed emptied.ledger group; run = call.after.run }
  pub steps_are : call.steps ≡ lowering ++ remove_steps group

-- the usage of the group is lowered as far as possible, and pages are still charged to it
pub record StaysBusy (group : ℕ) (call : Transition KnownMachine) : Type 0 where
  pub leaf : IsLeaf call.before.ledger.groups group
  pub lowers : LowersUsage group 0 call
  pub pages : 1 ≤ current_of call.after.ledger group

-- Rmdir: the group is removed; or pages stay charged to it after draining and reclaim; or it can't be removed, and
-- nothing changed
abbrev pub Removes : (group : ℕ) → Outcome → Transition KnownMachine → Type 0
Removes group Done call = RemovesGroup group call
Removes group (Refused Busy) call = StaysBusy group call
Removes group (Refused fault) call = IsNoLeaf call.before.ledger.groups group fault × MachineStays call
Removes group other call = ⊥
