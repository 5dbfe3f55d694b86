-- What always holds of a boot whose last visits are made.
use Rattle.std.specs.Prelude.{◌≡◌, length, All}
use Rattle.boot_words.specs.Tables.{KnownTable}
use Rattle.mem_machine.specs.Resting.{Rests}
use Rattle.mem_system.specs.Cpus.{parts_of}
use Rattle.mem_system.specs.Ends.{KnownEmptiedBoot, IsEmptied}

-- nobody holds the lock, and nothing is left at any CPU
pub record NothingIsLeft (table : KnownTable)
    (emptied : KnownEmptiedBoot) : Type 0 where
  pub rests : Rests table emptied.machine
  pub all_emptied : All (λ cpu. IsEmptied table emptied.machine cpu) (parts_of emptied.cpus)
  pub count : length emptied.cpus ≡ table.cpus
