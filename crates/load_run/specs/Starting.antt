-- The state after a boot.
use Rattle.std.specs.Prelude.{◌≡◌, []}
use Rattle.zone_blocks.specs.declared.config.Config.{Config}
use Rattle.boot_words.specs.Tables.{KnownTable}
use Rattle.mem_machine.specs.Machines.{IsFirst}
use Rattle.mem_system.specs.{IsSizedAs, first_cpus, parts_of}
use Rattle.script_replay.specs.Lines.{HasRun, SystemState}

-- the state after a boot with these sizes and this table: a new machine, CPUs that did nothing yet, and no step of
-- the run so far
pub record IsNewBootState (sizes : Config) (table : KnownTable)
    (first : SystemState) : Type 0 where
  pub sized : IsSizedAs sizes table
  pub machine : IsFirst table first.locked.machine
  pub sizes_are : first.locked.sizes ≡ sizes
  pub cpus : parts_of first.cpus ≡ first_cpus 1 sizes.cpus
  pub so_far : HasRun [] first
