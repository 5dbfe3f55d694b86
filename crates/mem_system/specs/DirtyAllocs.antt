-- How a unit is allocated and noted as dirty, with nothing served in between.
use Rattle.std.specs.Prelude.{◌≡◌, ◌⊎◌, ℕ, Some, None, List}
use Rattle.group_tree.specs.Groups.{number_at}
use Rattle.group_tree.specs.declared.fault.Fault.TheVariants.{NoGroup}
use Rattle.boot_words.specs.Tables.{KnownTable}
use Rattle.mem_system.specs.declared.command.LockedCommand.TheVariants.{Alloc, Dirty}
use Rattle.mem_system.specs.declared.outcome.Outcome.{Outcome}
use Rattle.mem_system.specs.declared.outcome.Outcome.TheVariants.{Done, Frame, Refused}
use Rattle.mem_system.specs.Shown.{SettlesCaller}
use Rattle.mem_system.specs.Visits.{IsServed, LockedState}

-- An Alloc of this order was served for the group, and gave a unit that begins at this frame. Right after it a Dirty of
-- that frame was served, and done: the unit is kept and dirty.
pub record AllocatesDirty (table : KnownTable) (group order frame : ℕ) (before after : LockedState) : Type 0 where
  pub between : LockedState
  pub allocates : IsServed table (Alloc group order) (Frame frame) before between
  pub notes : IsServed table (Dirty frame) Done between after

-- an allocation of a dirty unit, by its outcome: the unit is dirty, or the Alloc alone was served, and refused
abbrev pub ServesDirtyAlloc : KnownTable → (group order : ℕ) → Outcome → (before after : LockedState) → Type 0
ServesDirtyAlloc table group order (Frame frame) before after = AllocatesDirty table group order frame before after
ServesDirtyAlloc table group order refusal before after = IsServed table (Alloc group order) refusal before after

-- a group has the path, and a dirty unit was allocated for it
pub record AllocatesDirtyAt (table : KnownTable) (path : List ℕ) (order : ℕ) (outcome : Outcome)
    (before after : LockedState) : Type 0 where
  pub group : ℕ
  pub found : number_at before.locked.machine.ledger.groups path ≡ Some group
  pub serves : ServesDirtyAlloc table group order outcome before after

-- no group has the path: that is refused, and the CPU was settled
pub record SettlesForNoGroup (table : KnownTable) (path : List ℕ) (outcome : Outcome) (before after : LockedState)
    : Type 0 where
  pub none : number_at before.locked.machine.ledger.groups path ≡ None
  pub refused : outcome ≡ Refused NoGroup
  pub settles : SettlesCaller table before after

-- an allocation of a dirty unit by a path
abbrev pub ServesDirtyAt : KnownTable → (path : List ℕ) (order : ℕ) → Outcome → (before after : LockedState) → Type 0
ServesDirtyAt table path order outcome before after =
    AllocatesDirtyAt table path order outcome before after ⊎ SettlesForNoGroup table path outcome before after
