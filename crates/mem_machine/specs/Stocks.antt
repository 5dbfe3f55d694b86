-- How stocks are drained and filled.
use Rattle.std.specs.Prelude.{◌≡◌, ◌⊎◌, ℕ, zero, suc, ◌≤◌, ◌<◌, Bool, true, false, Option, Some, None, List, [], ◌∷◌, ◌++◌}
use Rattle.group_tree.specs.Room.{PathHasRoom}
use Rattle.group_charge.specs.{Ledger, current_of, with_charge, with_uncharge, noted}
use Rattle.group_tree.specs.declared.group.Group.{Group}
use Rattle.group_charge.specs.declared.note.Note.TheVariants.{Stock}
use Rattle.group_tree.specs.{is_in_subtree}
use Rattle.stock_word.specs.Stock.{group_base}
use Rattle.step_rules.specs.{Part, is_of_group, drained, filled, with_part}
use Rattle.boot_words.specs.Tables.{KnownTable}
use Rattle.mem_machine.specs.Machines.{KnownMachine, left_by, part_at}
use Rattle.mem_machine.specs.Local.{Makes}
use Rattle.mem_machine.specs.Steps.{Drain, drain_stocks_steps, over_steps, pages_drained}
use Rattle.mem_machine.specs.declared.stocks.Stocks.{Stocks}
use Rattle.mem_machine.specs.declared.stocks.Stocks.TheVariants.{OfGroup, OfSubtree}
-- the group of the CPU's stock
pub use Rattle.mem_machine.specs.Machines.{stock_group}

-- the ledger with this many pages less charged to the group, if there is one
abbrev pub uncharged : Ledger → Option ℕ → ℕ → Ledger
uncharged ledger None pages = ledger
uncharged ledger (Some group) pages = with_uncharge ledger group pages

-- the stock of this part is drained, or was never filled
abbrev pub HasDrained : Part → Type 0
HasDrained part = (part.stock.group ≡ None) ⊎ (part.stock.is_drained ≡ true)

-- the CPU's stock is drained, or was never filled
abbrev pub IsDrained : KnownTable → KnownMachine → ℕ → Type 0
IsDrained table machine cpu = HasDrained (part_at table machine cpu)

-- a stock can take this many pages: at least one, and as many as fit its word
abbrev pub FitsStock : ℕ → Type 0
FitsStock pages = (0 < pages) × (pages < group_base)

-- The CPU's stock is drained of this many pages. They are no longer booked to the stock, nor charged to its group. A
-- stock that is already drained gives 0 pages. Nothing else that the run leaves has changed.
pub record Drains (table : KnownTable) (cpu pages : ℕ) (before after : KnownMachine) : Type 0 where
  pub machine : after ≡ record before {
    ledger = uncharged before.ledger (stock_group table before cpu) pages;
    run = after.run;
  }
  pub left : left_by table after.run.past
      ≡ with_part (left_by table before.run.past) cpu (drained (part_at table before cpu) pages)
  pub booked : pages ≤ (part_at table before cpu).book
  pub drained_before : IsDrained table before cpu → pages ≡ 0

-- the CPU's stock is drained, and the drain is noted
pub record DrainsNoted (table : KnownTable) (cpu pages : ℕ) (before after : KnownMachine) : Type 0 where
  pub drains : Drains table cpu pages before (record after { notes = before.notes })
  pub noted : after.notes ≡ noted before.notes (Stock cpu pages)

-- the CPU's stock is drained, and `drain` is that drain
pub record DrainsOne (table : KnownTable) (cpu : ℕ) (drain : Drain) (before after : KnownMachine) : Type 0 where
  pub same_cpu : drain.cpu ≡ cpu
  pub group : drain.group ≡ stock_group table before cpu
  pub drains : DrainsNoted table cpu drain.pages before after

-- which stocks a call drains: a test of the existing groups and of a stock's group
abbrev pub StockTest : Type 0
StockTest = List Group → Option ℕ → Bool

-- the stock is of a group in the subtree of this one
abbrev pub of_subtree : ℕ → StockTest
of_subtree group groups stock = is_in_subtree groups group stock

-- the stock is of this group itself
abbrev pub of_group : ℕ → StockTest
of_group group groups stock = is_of_group stock group

-- these stocks, as a test
abbrev pub test_of : Stocks → StockTest
test_of (OfGroup group) = of_group group
test_of (OfSubtree group) = of_subtree group

-- the test chooses the CPU's stock
abbrev pub is_chosen : KnownTable → StockTest → KnownMachine → ℕ → Bool
is_chosen table test machine cpu = test machine.ledger.groups (stock_group table machine cpu)

-- If the test chooses the CPU's stock, that stock is drained, and this is the one drain. Else there is no drain, and
-- nothing changes.
abbrev pub DrainsIf : KnownTable → StockTest → ℕ → List Drain → KnownMachine → KnownMachine → Type 0
DrainsIf table test cpu [] before after = (is_chosen table test before cpu ≡ false) × (after ≡ before)
DrainsIf table test cpu (drain ∷ []) before after =
    (is_chosen table test before cpu ≡ true) × DrainsOne table cpu drain before after
DrainsIf table test cpu (one ∷ two ∷ more) before after = ⊥

-- the drains are those of a first part followed by those of a last part, made in this order
pub record DrainsInTurn (AreFirst AreLast : List Drain → KnownMachine → KnownMachine → Type 0) (drains : List Drain)
    (before after : KnownMachine) : Type 0 where
  pub first : List Drain
  pub last : List Drain
  pub between : KnownMachine
  pub drains_are : drains ≡ first ++ last
  pub makes_first : AreFirst first before between
  pub makes_last : AreLast last between after

-- of the stocks of CPUs 1 to `count`, those that the test chooses are drained, one after the other
abbrev pub DrainsAllIf : KnownTable → StockTest → ℕ → List Drain → KnownMachine → KnownMachine → Type 0
DrainsAllIf table test zero drains before after = (drains ≡ []) × (after ≡ before)
DrainsAllIf table test (suc count) drains before after =
    DrainsInTurn (DrainsAllIf table test count) (DrainsIf table test (suc count)) drains before after

-- of the stocks of CPUs 1 to `count`, those of the group's subtree are drained
abbrev pub DrainsAllBelow : KnownTable → ℕ → ℕ → List Drain → KnownMachine → KnownMachine → Type 0
DrainsAllBelow table group count drains before after = DrainsAllIf table (of_subtree group) count drains before after

-- Some drains, made as `AreDone` says, lead by their steps from one machine to the other. Together they took this many
-- pages.
pub record DrainsBySteps (table : KnownTable) (AreDone : List Drain → KnownMachine → KnownMachine → Type 0) (pages : ℕ)
    (before after : KnownMachine) : Type 0 where
  pub drains : List Drain
  pub all : AreDone drains before after
  pub sum : pages ≡ pages_drained drains
  pub steps : Makes table before (drain_stocks_steps drains) after

-- the stocks of the group's subtree are drained, of this many pages in all
abbrev pub DrainsSubtree : KnownTable → ℕ → ℕ → KnownMachine → KnownMachine → Type 0
DrainsSubtree table group pages before after =
    DrainsBySteps table (DrainsAllIf table (of_subtree group) table.cpus) pages before after

-- the stocks of the group itself are drained, of this many pages in all
abbrev pub DrainsGroup : KnownTable → ℕ → ℕ → KnownMachine → KnownMachine → Type 0
DrainsGroup table group pages before after =
    DrainsBySteps table (DrainsAllIf table (of_group group) table.cpus) pages before after

-- each stock that the test chooses is drained
abbrev pub AreDrainedIf : KnownTable → StockTest → ℕ → KnownMachine → Type 0
AreDrainedIf table test cpus machine = (cpu : ℕ) → 1 ≤ cpu → cpu ≤ cpus
    → is_chosen table test machine cpu ≡ true → IsDrained table machine cpu

-- each stock of the group's subtree is drained
abbrev pub AreDrained : KnownTable → ℕ → KnownMachine → Type 0
AreDrained table group machine = AreDrainedIf table (of_subtree group) table.cpus machine

-- each stock of the group itself is drained
abbrev pub AreOwnDrained : KnownTable → ℕ → KnownMachine → Type 0
AreOwnDrained table group machine = AreDrainedIf table (of_group group) table.cpus machine

-- The limits have room for this many pages. They are charged to the group and fill the CPU's stock. Nothing else that
-- the run leaves has changed.
pub record Fills (table : KnownTable) (cpu group pages : ℕ) (before after : KnownMachine) : Type 0 where
  pub room : PathHasRoom before.ledger.groups (current_of before.ledger) group pages
  pub machine : after ≡ record before { ledger = with_charge before.ledger group pages; run = after.run }
  pub left : left_by table after.run.past
      ≡ with_part (left_by table before.run.past) cpu (filled (part_at table before cpu) group pages)

-- the grant is refused at the group that the error names; nothing else changed, and the run leaves what it left
pub record RefusesGrant (table : KnownTable) (group pages over : ℕ) (before after : KnownMachine) : Type 0 where
  pub machine : after ≡ record before { run = after.run }
  pub left : left_by table after.run.past ≡ left_by table before.run.past
  pub steps : Makes table before (over_steps group pages over) after
