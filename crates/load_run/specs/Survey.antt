-- What a look at all pasts together shows, and what a seat changes in a run.
use Rattle.std.specs.Prelude.{◌≡◌, ℕ, suc, ◌==◌, ◌&&◌, not, Some, List, ◌∷◌, ◌++◌, filter, map, slice_get}
use Rattle.step_rules.specs.After.{Run, IsLegalRun}
use Rattle.boot_words.specs.declared.past.Past.{Past}
use Rattle.boot_words.specs.{AreChangesOf, changes_nothing, Meets, own_past, AllOf, OthersFollow, zone_of_boot, KnownTable}
use Rattle.stock_word.specs.declared.stock.Stock.{Stock}
use Rattle.mem_machine.specs.{with_past}
use Rattle.mem_system.specs.{CpuInRun, parts_of, pasts_of, MachineAndCpu}
use Rattle.script_replay.specs.Lines.{HasRun, SystemState}

-- the steps of this seat in the run, in order, without those whose answer changes nothing
abbrev pub changes_by : ℕ → Run → Run
changes_by seat run = filter (λ made. made.0.seat == seat && not (changes_nothing made.1)) run

-- The run is `seen`, and then the steps of this seat are its steps among these, in their order, but for steps that change
-- nothing. Others' steps may be anywhere after `seen`.
pub record ChangesFollow (seat : ℕ) (seen steps run : Run) : Type 0 where
  pub rest : Run
  pub is : run ≡ seen ++ rest
  pub changes : changes_by seat rest ≡ changes_by seat steps

-- A CPU and the zone have met. Nothing but their pasts has changed.
pub record MeetsZone (table : KnownTable) (before after : MachineAndCpu) : Type 0 where
  pub machine : after.machine ≡ with_past before.machine after.machine.run.past
  pub part : after.cpu.part ≡ before.cpu.part
  pub last : after.cpu.last ≡ before.cpu.last
  pub meets : Meets table before.machine.run.past before.cpu.past after.machine.run.past after.cpu.past

-- the stocks that the CPUs saw last
abbrev pub lasts_of : List CpuInRun → List Stock
lasts_of cpus = map (λ cpu. cpu.last) cpus

-- the run is this past and then others' steps
abbrev pub HasPast : Run → Past → Type 0
HasPast run past = OthersFollow past.number past.seen run

-- the past is this run and then others' steps
abbrev pub HasSeen : Run → Past → Type 0
HasSeen run past = OthersFollow past.number run past.seen

-- the pasts are those of the CPUs 1, 2 and so on
abbrev pub AreNumbered : List Past → Type 0
AreNumbered pasts = (index : ℕ) (past : Past) → slice_get pasts index ≡ Some past → past.number ≡ suc index

-- One legal run begins with each seat's past before, and each seat's past after begins with it: those of the zone and of
-- all CPUs. What follows in either is steps of others. So each seat's steps are those that this run has of it, and the run
-- is the run so far. Nothing but pasts has changed. Whatever steps were the run so far, they are this run without steps
-- whose answer changes nothing. So they are legal, and are the run so far still.
pub record SeesAllPasts (table : KnownTable) (before after : SystemState) : Type 0 where
  pub locked : after.locked
      ≡ record before.locked { machine = with_past before.locked.machine after.locked.machine.run.past }
  pub parts : parts_of after.cpus ≡ parts_of before.cpus
  pub lasts : lasts_of after.cpus ≡ lasts_of before.cpus
  pub beginning : Run
  pub legal : IsLegalRun (zone_of_boot table) beginning
  pub begins : AllOf (HasPast beginning) (own_past before.locked.machine.run.past ∷ pasts_of before.cpus)
  pub seen : AllOf (HasSeen beginning) (own_past after.locked.machine.run.past ∷ pasts_of after.cpus)
  pub is_run : AreNumbered (pasts_of before.cpus) → HasRun beginning after
  pub changes : (steps : Run) → HasRun steps before → AreChangesOf beginning steps
  pub steps_legal : (steps : Run) → HasRun steps before → IsLegalRun (zone_of_boot table) steps
  pub goes_on : (steps : Run) → HasRun steps before → HasRun steps after
