-- What each kind of handle leads to.
use Rattle.std.specs.Prelude.{Option}
use Rattle.host_memory.specs.{led_of}
use Rattle.tempolemon_threads.specs.Handles.{LedHome}
use Rattle.tempolemon_threads.specs.declared.handles.CpuPart.{CpuPart}
use Rattle.tempolemon_threads.specs.declared.handles.Zone.{Zone}

-- the zone behind its handle, if there is one
abbrev pub zone_behind : Zone → Option LedHome
zone_behind zone = led_of zone.raw.frames zone.raw.home

-- the CPU behind its handle, if there is one, with its zone
abbrev pub part_behind : CpuPart → Option LedHome
part_behind part = led_of part.raw.frames part.raw.home
