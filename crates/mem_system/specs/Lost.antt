-- That no unit is lost: each charged unit is on a list of its group, fresh or back at a CPU, or has references.
use Rattle.std.specs.Prelude.{◌≡◌, ◌⊎◌, ℕ, ◌≤◌, Some, List, slice_get}
use Rattle.step_rules.specs.{times, Run, IsLegalRun, state_of}
use Rattle.boot_words.specs.{zone_of_boot, own_past, BeginsRun, KnownTable}
use Rattle.cpu_part.specs.{KnownCpuLists, HasOwn}
use Rattle.step_rules.specs.declared.phase.ChargedUnit.{ChargedUnit}
use Rattle.lru_lists.specs.declared.record.Home.{Home}
use Rattle.mem_machine.specs.declared.frame_state.FrameState.TheVariants.{Lent, Head, Tail}
use Rattle.mem_machine.specs.{IsTailOf, frame_state_at, KnownMachine, IsConsistent, home_of, Rests}

-- the unit is kept: its head is on a list of the group, which has a reference of the zone
abbrev pub IsKeptFor : KnownMachine → (group head : ℕ) → Type 0
IsKeptFor machine group head = (home : Home) × (home_of machine.links head ≡ Some home) × (home.owner ≡ group)

-- the CPU has the unit: its head is one of the CPU's back frames, or the CPU has a reference on it
abbrev pub HasUnit : (head : ℕ) → KnownCpuLists → Type 0
HasUnit head cpu = (1 ≤ times head cpu.back) ⊎ (1 ≤ times head cpu.pins)

-- the CPU has this number and the frame, on its list or fresh
abbrev pub HasLent : (number frame : ℕ) → KnownCpuLists → Type 0
HasLent number frame cpu = (cpu.number ≡ number) × ((1 ≤ times frame cpu.list) ⊎ (1 ≤ times frame cpu.fresh))

-- one of the CPUs is so
abbrev pub SomeCpu : List KnownCpuLists → (KnownCpuLists → Type 0) → Type 0
SomeCpu cpus IsSo = (index : ℕ) × (cpu : KnownCpuLists) × (slice_get cpus index ≡ Some cpu) × IsSo cpu

-- No unit is lost. Each unit of the machine's records is kept for its group, or a CPU has it: as a back frame, or by a
-- reference. Each tail is in such a unit. Each frame that is lent to a CPU is on that CPU's list, or fresh there: then
-- it is a charged unit of one frame.
pub record NoUnitIsLost (machine : KnownMachine) (cpus : List KnownCpuLists) : Type 0 where
  pub heads : (head : ℕ) (unit : ChargedUnit) → frame_state_at machine.frame_states head ≡ Head unit
      → IsKeptFor machine unit.group head ⊎ SomeCpu cpus (HasUnit head)
  pub tails : (frame group : ℕ) → frame_state_at machine.frame_states frame ≡ Tail group
      → IsTailOf machine.frame_states frame group
  pub lent : (frame number : ℕ) → frame_state_at machine.frame_states frame ≡ Lent number
      → SomeCpu cpus (HasLent number frame)

-- These are all CPUs of the table, and their lists and pins are their own after a legal run of which the machine's past is
-- a beginning, after which no step needs the lock.
pub record AreAllCpus (table : KnownTable) (machine : KnownMachine) (cpus : List KnownCpuLists) : Type 0 where
  pub run : Run
  pub legal : IsLegalRun (zone_of_boot table) run
  pub begins : BeginsRun (zone_of_boot table) run (own_past machine.run.past)
  pub all : (number : ℕ) → 1 ≤ number → number ≤ table.cpus → SomeCpu cpus (λ cpu. cpu.number ≡ number)
  pub own : (index : ℕ) (cpu : KnownCpuLists) → slice_get cpus index ≡ Some cpu → HasOwn (state_of (zone_of_boot table) run) cpu

-- no unit of the machine is lost, whatever the CPUs are
abbrev pub LosesNoUnit : KnownTable → KnownMachine → Type 0
LosesNoUnit table machine = (cpus : List KnownCpuLists) → AreAllCpus table machine cpus → NoUnitIsLost machine cpus

-- a consistent machine whose lock nobody holds has lost no unit
abbrev pub ConsistentMachinesLoseNoUnit : Type 0
ConsistentMachinesLoseNoUnit = (table : KnownTable) (machine : KnownMachine)
    → IsConsistent table machine → Rests table machine → LosesNoUnit table machine
