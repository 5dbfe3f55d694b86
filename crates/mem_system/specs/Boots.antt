-- What contracts see of a boot, of a system, and of the first parts of its CPUs.
use Rattle.std.specs.Prelude.{◌≡◌, ℕ, zero, suc, ◌+◌, List, [], ◌∷◌}
use Rattle.boot_words.specs.declared.past.Past.{Past}
use Rattle.boot_words.specs.{no_past, KnownPasts, IsAwayCpu, KnownCpuSeat, cpus_at_first, seat_at_first, AllOf, KnownTable}
use Rattle.cpu_part.specs.Cpus.{KnownCpuLists, first_cpu}
use Rattle.zone_blocks.specs.declared.config.Config.{Config}
use Rattle.zone_blocks.specs.Config.{IsValidConfig}

-- a boot: its sizes and its table
pub record KnownBoot : Type 0 where
  pub sizes : Config
  pub table : KnownTable

-- What CPUs share of a system: the table of its boot, and the boot's sizes. No clause sees what lies behind its lock.
pub record KnownSystem : Type 0 where
  pub table : KnownTable
  pub sizes : Config

-- the table has these sizes and choices
pub record IsSizedAs (sizes : Config) (table : KnownTable) : Type 0 where
  pub frames : table.frames ≡ sizes.frames
  pub cpus : table.cpus ≡ sizes.cpus
  pub choices : table.choices ≡ sizes.choices

-- The sizes are in their ranges, and the table has them. The seats of the zone and of the CPUs are all the seats of the
-- table, and none has made a step. No CPU holds the lock.
pub record IsBooted (boot : KnownBoot) (zone : KnownPasts) (cpus : List KnownCpuSeat) : Type 0 where
  pub valid : IsValidConfig boot.sizes
  pub sized : IsSizedAs boot.sizes boot.table
  pub zone_is : zone ≡ seat_at_first boot.table.table 0
  pub cpus_are : cpus ≡ cpus_at_first boot.table.table 1 boot.sizes.cpus
  pub away : AllOf (IsAwayCpu boot.table) cpus

-- the first parts of this many CPUs, from number `first` on: no frame is listed, fresh or back, and there is no pin
abbrev pub first_cpus : (first count : ℕ) → List KnownCpuLists
first_cpus first zero = []
first_cpus first (suc more) = first_cpu first ∷ first_cpus (first + 1) more

-- the pasts of this many CPUs at first, from number `first` on: none has a step
abbrev pub first_pasts : (first count : ℕ) → List Past
first_pasts first zero = []
first_pasts first (suc more) = no_past first ∷ first_pasts (first + 1) more
