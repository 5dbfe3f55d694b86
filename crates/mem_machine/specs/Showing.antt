-- What the machine shows of a group's kept units and of a CPU's stock.
use Rattle.std.specs.Prelude.{ℕ, List, ◌++◌, map}
use Rattle.stock_word.specs.declared.stock.Stock.{Stock}
use Rattle.boot_words.specs.{stock_in, own_past, zone_of_boot, KnownTable}
use Rattle.lru_lists.specs.declared.record.Entry.{Entry}
use Rattle.lru_lists.specs.declared.record.LruList.{LruList}
use Rattle.lru_lists.specs.declared.record.LruList.TheVariants.{Inactive, Active}
use Rattle.step_rules.specs.After.{state_of}
use Rattle.mem_machine.specs.Local.{local_of}
-- the units of one of the group's lists, from the oldest to the newest
pub use Rattle.mem_machine.specs.Machines.{entries_in}
use Rattle.mem_machine.specs.Machines.{KnownMachine, inactive_in, active_in}

-- a kept unit with the list that it is on
pub record ListedUnit : Type 0 where
  pub list : LruList
  pub entry : Entry

-- the unit of this entry of this list
abbrev pub listed : LruList → Entry → ListedUnit
listed list entry = record { list = list; entry = entry }

-- the kept units of the group: those of its inactive list and then those of its active list, each from the oldest to
-- the newest
abbrev pub units_in : KnownMachine → ℕ → List ListedUnit
units_in machine group = map (listed Inactive) (inactive_in machine group)
    ++ map (listed Active) (active_in machine group)

-- the CPU's own stock, as it sees it under the lock
abbrev pub stock_now : KnownTable → KnownMachine → ℕ → Stock
stock_now table machine cpu = stock_in ((local_of table machine).parts cpu)

-- the CPU's stock after the machine's past
abbrev pub stock_left : KnownTable → KnownMachine → ℕ → Stock
stock_left table machine cpu = stock_in ((state_of (zone_of_boot table) (own_past machine.run.past).seen).parts cpu)
