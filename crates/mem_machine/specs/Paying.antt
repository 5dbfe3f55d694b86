-- What a CPU's stock holds, how a page of it pays for a frame, and what may be charged.
use Rattle.std.specs.Prelude.{◌≡◌, ℕ, ◌+◌, ◌^◌, ◌<◌, ◌≤◌, false, IsTrue}
use Rattle.stock_word.specs.declared.stock.Stock.TheVariants.{HeldBy}
use Rattle.boot_words.specs.Tables.{KnownTable}
use Rattle.cpu_part.specs.Calls.{TakesFront}
use Rattle.group_tree.specs.Groups.{has_group}
use Rattle.zone_blocks.specs.Config.{most_cpus, most_frames}
use Rattle.group_charge.specs.Charges.{current_of}
use Rattle.mem_machine.specs.Machines.{KnownMachine, VisitState, is_killed, left_by}
use Rattle.mem_machine.specs.Showing.{stock_now}

-- the CPU's stock is of this group, isn't drained, and has a page
abbrev pub HoldsPage : KnownTable → KnownMachine → (cpu group : ℕ) → Type 0
HoldsPage table machine cpu group = (more : ℕ) × (stock_now table machine cpu ≡ HeldBy group (more + 1))

-- The frame at the front of the CPU's list is fresh now, and the stock of the group has one page less. Others see no
-- change.
pub record PaysForFront (table : KnownTable) (group frame : ℕ) (before after : VisitState) : Type 0 where
  pub takes : TakesFront frame before.cpu after.cpu
  pub page : (more : ℕ) → stock_now table before.machine before.cpu.number ≡ HeldBy group (more + 1)
      → stock_now table after.machine after.cpu.number ≡ HeldBy group more
  pub machine : after.machine ≡ record before.machine { run = after.machine.run }
  pub left : left_by table after.machine.run.past ≡ left_by table before.machine.run.past

-- the zone has at most `most_frames` frames and `most_cpus` CPUs
pub record IsOfSize (table : KnownTable) : Type 0 where
  pub frames : table.frames ≤ most_frames
  pub cpus : table.cpus ≤ most_cpus

-- with this many more pages, fewer than 2^32 pages are charged in all
abbrev pub HasRoomFor : KnownMachine → ℕ → Type 0
HasRoomFor now pages = current_of now.ledger 0 + pages < 2 ^ 32

-- This many pages may be charged to the group if its limits have room for them. The group exists and isn't killed, and
-- the count of all charged pages doesn't overflow.
pub record MayCharge (now : KnownMachine) (group pages : ℕ) : Type 0 where
  pub there : IsTrue (has_group now.ledger.groups group)
  pub alive : is_killed now.killed group ≡ false
  pub fits : HasRoomFor now pages
