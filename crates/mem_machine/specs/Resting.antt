-- The machine while nobody holds its lock.
use Rattle.boot_words.specs.{LeavesFree, IsZonePast, own_past, zone_of_boot, KnownTable}
use Rattle.mem_machine.specs.Machines.{KnownMachine}

-- nobody holds the lock by the machine's past, which is the zone's alone
pub record Rests (table : KnownTable) (machine : KnownMachine) : Type 0 where
  pub past_is : IsZonePast table machine.run.past
  pub free : LeavesFree (zone_of_boot table) (own_past machine.run.past)
