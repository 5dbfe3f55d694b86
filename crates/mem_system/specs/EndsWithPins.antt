-- How a system ends whose CPUs may still have pins: each pin is put, and then the boot ends. There is one legal run of all
-- its steps.
use Rattle.std.specs.Prelude.{◌≡◌, List, ◌++◌, IsPermutation}
use Rattle.step_rules.specs.After.{Run}
use Rattle.boot_words.specs.{GrewByAll, own_past, zone_of_boot, AllOf, BeginsRun, KnownTable}
use Rattle.boot_words.specs.declared.past.Past.{Past}
use Rattle.mem_system.specs.declared.end_with_pins.SystemEnd.{SystemEnd}
use Rattle.mem_system.specs.Cpus.{CpuInRun, between_locks, parts_of}
use Rattle.mem_system.specs.Ends.{Ends, pins_of_all}
use Rattle.mem_system.specs.Locked.{BehindLock, IsSound, KnownLocked}
use Rattle.mem_system.specs.Puts.{EachPuts, MadePut, frames_put, unpin_steps}

-- All that the CPU did from now to the end of the run. Its past is a beginning of the run. After it the CPU put each of
-- its pins and made two visits, and made no other step. `settling` and `emptying` are the steps of any two visits here:
-- that the first settles the CPU, and that the second empties its list and stock, is said by `PutsAndEnds`
-- (`ends.visits`).
pub record EndsCpu (table : KnownTable) (run : Run) (cpu : CpuInRun) : Type 0 where
  pub puts : List MadePut
  pub pins : IsPermutation cpu.part.pins (frames_put puts)
  pub settling : Run
  pub emptying : Run
  pub last : Past
  pub number : (own_past cpu.past).number ≡ cpu.part.number
  pub grew : GrewByAll (own_past cpu.past)
      (unpin_steps cpu.part.number puts
      ++ (between_locks cpu.part.number settling ++ between_locks cpu.part.number emptying))
      last
  pub is_last : BeginsRun (zone_of_boot table) run last

-- The CPUs put all pins that they had, and the boot ended, with this behind its lock. One legal run leads to the words of
-- the table (`ends.closes`). The past of each CPU is a beginning of it (`each`). So is the zone's past, which led to what
-- is behind the lock (`sound.quiet.rests`): after it the zone's seat makes only the steps of the last visits, each after
-- steps of CPUs.
pub record PutsAndEnds (table : KnownTable) (locked : KnownLocked)
    (cpus : List CpuInRun) (ended : SystemEnd) : Type 0 where
  pub sound : IsSound table locked
  pub held : ended.held ≡ pins_of_all (parts_of cpus)
  pub left : List CpuInRun
  pub puts : EachPuts cpus left
  pub ends : Ends table locked left ended.audit
  pub each : AllOf (EndsCpu table ends.closes.end.run) cpus
  pub zone : GrewByAll (own_past locked.machine.run.past) ends.visits.steps (own_past ends.emptied.machine.run.past)

-- A system with these tables ended so, whatever its CPUs and what lay behind its lock. It says nothing of `held`: any
-- puts may be counted as made before the end.
abbrev pub HasEnded : KnownTable → SystemEnd → Type 0
HasEnded table ended =
    (cpus : List CpuInRun)
    × BehindLock table (λ found. PutsAndEnds table found cpus ended)
