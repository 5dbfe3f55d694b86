-- How the whole begins, and what holds whenever a run shows it.
use Rattle.std.specs.Prelude.{◌≡◌, ℕ, ◌+◌, ◌-◌, nat_le, zero, suc, Option, Some, None, List, [], length, slice_get, if◌then◌else◌}
use Rattle.std.specs.Option.{option_map_or}
use Rattle.group_charge.specs.Charges.{AreCharges, current_of}
use Rattle.boot_words.specs.{zone_of_boot, KnownTable}
use Rattle.cpu_part.specs.Cpus.{KnownCpuLists, first_cpu}
use Rattle.step_rules.specs.{PartStock, times, frames_kept, pages_prepaid, Run, state_of, Shown}
use Rattle.step_rules.specs.Promise.{Promise}
use Rattle.mem_machine.specs.declared.frame_state.FrameState.{FrameState}
use Rattle.mem_machine.specs.declared.frame_state.FrameState.TheVariants.{Free, Lent, Head, Tail}
use Rattle.mem_machine.specs.{frame_state_at, AgreesWithRun, KnownMachine, IsConsistent, IsFirst, part_at, stock_group}
use Rattle.mem_history.specs.Whole.{ShowsAll}

-- ---- a new boot

-- the machine of a new boot, and the parts of its CPUs in order, none of which has made a step
pub record IsNewBoot (table : KnownTable) (first : KnownMachine) (cpus : List KnownCpuLists) : Type 0 where
  pub machine : IsFirst table first
  pub count : length cpus ≡ table.cpus
  pub each : (index : ℕ) (cpu : KnownCpuLists) → slice_get cpus index ≡ Some cpu → cpu ≡ first_cpu (suc index)

-- the run without steps shows a new boot
abbrev pub ABootIsShown : Type 0
ABootIsShown = (table : KnownTable) (first : KnownMachine) (cpus : List KnownCpuLists) → IsNewBoot table first cpus
    → ShowsAll table [] first cpus

-- the peaks and event counts of a new boot are those of the run without steps
abbrev pub ABootAgrees : Type 0
ABootAgrees = (table : KnownTable) (machine : KnownMachine) → IsFirst table machine
    → AgreesWithRun table [] machine.ledger

-- ---- memory.current

-- If a run shows the whole, then the ledger's usage of a group is the frames that the group and its descendants keep
-- by the run, plus the pages prepaid for them.
abbrev pub CurrentIsKept : Type 0
CurrentIsKept = (table : KnownTable) (run : Run) (machine : KnownMachine) (cpus : List KnownCpuLists)
    → ShowsAll table run machine cpus → IsConsistent table machine → AreCharges machine.ledger → (group : ℕ)
    → current_of machine.ledger group
    ≡ frames_kept (state_of (zone_of_boot table) run).groups (state_of (zone_of_boot table) run).phases table.frames group
    + pages_prepaid (state_of (zone_of_boot table) run).groups (state_of (zone_of_boot table) run).parts table.cpus group

-- ---- the promise

-- the listed frames of the CPU of this number, by its part; CPUs count from 1, so number 0 has none
abbrev pub list_by : List KnownCpuLists → ℕ → List ℕ
list_by cpus zero = []
list_by cpus (suc index) = option_map_or (λ cpu. cpu.list) (slice_get cpus index) []

-- the fresh frames of the CPU of this number, by its part
abbrev pub fresh_frames_by : List KnownCpuLists → ℕ → List ℕ
fresh_frames_by cpus zero = []
fresh_frames_by cpus (suc index) = option_map_or (λ cpu. cpu.fresh) (slice_get cpus index) []

-- the group that keeps the frame, by the frame's record; the group of a CPU's stock keeps a frame that is lent to
-- that CPU and fresh there
abbrev pub keeper_by : KnownTable → KnownMachine → List KnownCpuLists → ℕ → FrameState → Option ℕ
keeper_by table machine cpus frame Free = None
keeper_by table machine cpus frame (Lent cpu) =
    if nat_le 1 (times frame (fresh_frames_by cpus cpu)) then stock_group table machine cpu else None
keeper_by table machine cpus frame (Head unit) = Some unit.group
keeper_by table machine cpus frame (Tail group) = Some group

-- the stock of the CPU: what the machine's past left of it, less the pages that paid for the fresh frames
abbrev pub stock_by : KnownTable → KnownMachine → List KnownCpuLists → ℕ → PartStock
stock_by table machine cpus cpu = record ((part_at table machine cpu).stock) {
  pages = (part_at table machine cpu).stock.pages - length (fresh_frames_by cpus cpu);
}

-- what the machine and the parts show: memory.current is the ledger's number, which `read` prints
abbrev pub shown_of : KnownTable → KnownMachine → List KnownCpuLists → Shown
shown_of table machine cpus = record {
  areas = machine.blocks;
  lists = list_by cpus;
  keeper = λ frame. keeper_by table machine cpus frame (frame_state_at machine.frame_states frame);
  groups = machine.ledger.groups;
  stocks = stock_by table machine cpus;
  current = current_of machine.ledger;
}

-- if a run shows the whole, then the promise holds of what the machine and the parts show
abbrev pub TheWholeIsPromised : Type 0
TheWholeIsPromised = (table : KnownTable) (run : Run) (machine : KnownMachine) (cpus : List KnownCpuLists)
    → ShowsAll table run machine cpus → IsConsistent table machine → AreCharges machine.ledger
    → Promise (zone_of_boot table) run (shown_of table machine cpus)
