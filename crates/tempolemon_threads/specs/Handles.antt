-- What contracts see of a host's handles.
use Rattle.std.specs.Prelude.{◌≡◌, ◌↔◌, ℕ, Bool, Option, None, Some, IsSome, IsTrue}
use Rattle.zone_blocks.specs.declared.config.Config.{Config}
use Rattle.boot_words.specs.Tables.{KnownTable}
use Rattle.mem_system.specs.{IsSizedAs, HasEnded}
use Rattle.zone_threads.specs.Homes.{HasCpu, HasCpuAsParked, HasNoCpu, IsCpu, KnownHome}
use Rattle.host_memory.specs.{Led, end_of, led}
use Rattle.host_memory.specs.declared.report.Report.{Report}

-- what a handle leads to: a zone, by its table, and a CPU of it, if the handle is a CPU's
abbrev pub LedHome : Type 0
LedHome = Led KnownHome

-- a zone's handle says whether it leads to a zone, and has no CPU
pub record IsZoneHandle (is_live : Bool) (home : Option KnownHome) : Type 0 where
  pub live : IsTrue is_live ↔ IsSome home
  pub no_cpu : (at : KnownHome) → home ≡ Some at → HasNoCpu at

-- a CPU's handle says whether it leads to a zone, and has a CPU then
pub record IsCpuHandle (is_live : Bool) (home : Option KnownHome) : Type 0 where
  pub live : IsTrue is_live ↔ IsSome home
  pub cpu : (at : KnownHome) → home ≡ Some at → HasCpu at

-- the handle leads to a zone of these sizes
pub record BootsZone (sizes : Config) (after : Option LedHome) : Type 0 where
  pub zone : LedHome
  pub is : after ≡ Some zone
  pub sized : IsSizedAs sizes zone.frames
  pub sizes_are : zone.known.sizes ≡ sizes

-- the handle leads to this CPU of the zone of this table and of these sizes, just as the CPU was parked
pub record CpuIn (number : ℕ) (frames : KnownTable) (sizes : Config) (part : Option LedHome) : Type 0 where
  pub home : KnownHome
  pub part_is : part ≡ Some (led frames home)
  pub sizes_are : home.sizes ≡ sizes
  pub taken : HasCpuAsParked number home

-- the part's handle leads to this CPU of the zone that the zone's handle leads to, just as the CPU was parked
pub record TakesPart (number : ℕ) (zone part : Option LedHome) : Type 0 where
  pub zone_led : LedHome
  pub zone_is : zone ≡ Some zone_led
  pub cpu_in : CpuIn number zone_led.frames zone_led.known.sizes part

-- the zone that the handle leads to has no CPU of this number
pub record HasNoSuchCpu (number : ℕ) (zone : Option LedHome) : Type 0 where
  pub led_to : LedHome
  pub is : zone ≡ Some led_to
  pub none : ¬ IsCpu led_to.frames.cpus number

-- the zone that the handle leads to has a CPU of this number
pub record HasSuchCpu (number : ℕ) (zone : Option LedHome) : Type 0 where
  pub led_to : LedHome
  pub is : zone ≡ Some led_to
  pub there : IsCpu led_to.frames.cpus number

-- the handle led to a CPU, and leads nowhere now
pub record ReturnsPart (before after : Option LedHome) : Type 0 where
  pub part : LedHome
  pub was : before ≡ Some part
  pub cpu : HasCpu part.known
  pub is : after ≡ None

-- the zone ended with this report, and the handle leads nowhere
pub record EndsWith (report : Report) (before after : Option LedHome) : Type 0 where
  pub zone : LedHome
  pub was : before ≡ Some zone
  pub ends : HasEnded zone.frames (end_of report)
  pub is : after ≡ None
