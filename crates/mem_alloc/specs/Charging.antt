-- How pages for single frames are charged, through the CPU's stock.
use Rattle.std.specs.Prelude.{◌≡◌, ◌⊎◌, ℕ, [], false, IsTrue, Result, Ok, Err}
use Rattle.zone_blocks.specs.Config.{IsValidConfig}
use Rattle.zone_blocks.specs.declared.config.Config.{Config}
use Rattle.group_tree.specs.Groups.{has_group}
use Rattle.boot_words.specs.Tables.{KnownTable}
use Rattle.cpu_part.specs.Cpus.{KnownCpuLists}
use Rattle.mem_machine.specs.{KnownMachine, LacksRoom, with_run, Drains, Fills, stock_group, drain_steps, fill_steps, over_steps, HoldsPage, Makes}
use Rattle.mem_machine.specs.{is_killed, IsDrained, IsOfSize, MayCharge, Visits}
use Rattle.mem_machine.specs.{VisitState, Finds, InTurn, MachineStays, OfMachineAlone, Stays, Transition}
use Rattle.mem_alloc.specs.declared.faults.AllocFault.{AllocFault}
use Rattle.mem_alloc.specs.High.{PathHasHighRoom}
use Rattle.mem_alloc.specs.Room.{AfterRoom, IsRefusedFor}

-- What paying for a frame finds. The CPU is visited and has no fresh frame, the zone isn't too large, the sizes given
-- are in their ranges, and the group exists and isn't killed.
pub record MayPay (table : KnownTable) (given : Config) (group : ℕ) (machine : KnownMachine) (cpu : KnownCpuLists) : Type 0 where
  pub visit : Visits table machine cpu
  pub size : IsOfSize table
  pub sizes : IsValidConfig given
  pub there : IsTrue (has_group machine.ledger.groups group)
  pub alive : is_killed machine.killed group ≡ false
  pub none_fresh : cpu.fresh ≡ []

-- What filling the CPU's stock with pages of the group finds. The CPU is visited and has no fresh frame, the pages may
-- be charged, and the stock is drained.
pub record MayFill (table : KnownTable) (group pages : ℕ) (machine : KnownMachine) (cpu : KnownCpuLists) : Type 0 where
  pub visit : Visits table machine cpu
  pub may_charge : MayCharge machine group pages
  pub none_fresh : cpu.fresh ≡ []
  pub drained : IsDrained table machine cpu.number

-- the limits have room for this many pages, which are charged to the group and fill the CPU's stock
pub record FillsStock (group pages : ℕ) (call : Transition VisitState) : Type 0 where
  pub fills : Fills call.table call.before.cpu.number group pages call.before.machine call.after.machine
  pub cpu : call.after.cpu ≡ call.before.cpu
  pub steps_are : call.steps ≡ fill_steps call.before.cpu.number group pages

-- As soon as every limit has room, one page is charged to the group and fills the CPU's stock. Otherwise its charge is
-- refused for good.
abbrev pub ChargesOne : ℕ → Result (Unit {0}) AllocFault → Transition VisitState → Type 0
ChargesOne group (Ok done) call = AfterRoom group 1 (FillsStock group 1) call
ChargesOne group (Err cause) call = IsRefusedFor group 1 cause call

-- each memory.high and each limit has room for a whole stock, which is charged to the group and fills the CPU's stock
pub record FillsBatch (group pages : ℕ) (call : Transition VisitState) : Type 0 where
  pub high : PathHasHighRoom call.before.machine.ledger group pages
  pub fills : FillsStock group pages call

-- each memory.high has room for a whole stock but the limit of some group has none, which is no event but which the run
-- notes
pub record RefusesBatch (group pages : ℕ) (call : Transition KnownMachine) : Type 0 where
  pub high : PathHasHighRoom call.before.ledger group pages
  pub over : ℕ
  pub batch : LacksRoom call.before group pages over
  pub machine : call.after ≡ with_run call.before call.after.run
  pub refuses : Makes call.table call.before (over_steps group pages over) call.after
  pub steps_are : call.steps ≡ over_steps group pages over

-- some memory.high has no room for a whole stock, which isn't tried, or some limit has none
abbrev pub LacksBatch : (group pages : ℕ) → Transition KnownMachine → Type 0
LacksBatch group pages call =
    ((¬ PathHasHighRoom call.before.ledger group pages) × MachineStays call) ⊎ RefusesBatch group pages call

-- there is no room for a whole stock, and one page is charged
abbrev pub ChargesNoBatch : Config → ℕ → Result (Unit {0}) AllocFault → Transition VisitState → Type 0
ChargesNoBatch sizes group answer call =
    InTurn (OfMachineAlone (LacksBatch group sizes.stock)) (ChargesOne group answer) call

-- The CPU's drained stock is filled with `sizes.stock` pages or, if there is no room for them, with one. Or the charge
-- of that one page is refused.
abbrev pub FillsDrainedStock : Config → ℕ → Result (Unit {0}) AllocFault → Transition VisitState → Type 0
FillsDrainedStock sizes group (Ok done) call =
    FillsBatch group sizes.stock call ⊎ ChargesNoBatch sizes group (Ok done) call
FillsDrainedStock sizes group (Err cause) call = ChargesNoBatch sizes group (Err cause) call

-- the CPU's own stock is drained of `drained` pages, which are uncharged from their group
pub record DrainsStock (call : Transition VisitState) : Type 0 where
  pub drained : ℕ
  pub drains : Drains call.table call.before.cpu.number drained call.before.machine call.after.machine
  pub cpu : call.after.cpu ≡ call.before.cpu
  pub runs : Makes call.table call.before.machine call.steps call.after.machine
  pub steps_are : call.steps
      ≡ drain_steps call.before.cpu.number (stock_group call.table call.before.machine call.before.cpu.number) drained

-- The CPU's stock has no page of the group. It is drained, and then pages of the group are charged.
abbrev pub ChargesAfterDrain : Config → ℕ → Result (Unit {0}) AllocFault → Transition VisitState → Type 0
ChargesAfterDrain sizes group answer call =
    Finds (λ now. ¬ HoldsPage call.table now.machine now.cpu.number group)
    (InTurn DrainsStock (FillsDrainedStock sizes group answer)) call

-- The CPU's stock has a page of the group: it had one before, or one is charged. Or that charge is refused.
abbrev pub PaysForFrame : Config → ℕ → Result (Unit {0}) AllocFault → Transition VisitState → Type 0
PaysForFrame sizes group (Ok done) call =
    Finds (λ now. HoldsPage call.table now.machine now.cpu.number group) Stays call
    ⊎ ChargesAfterDrain sizes group (Ok done) call
PaysForFrame sizes group (Err cause) call = ChargesAfterDrain sizes group (Err cause) call
