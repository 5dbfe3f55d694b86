use Rattle.boot_words.specs.{zone_of_boot, cpu_past, own_past}
use Rattle.boot_words.proofs.UnderLock.{MadeHeld}
use Rattle.boot_words.proofs.raw.BootWords.make_plain.Given as goal

abbrev pub ghosts-plain_as : goal.ghosts-plain_as
ghosts-plain_as a = record { post = λ found. MadeHeld (zone_of_boot a.self.now) (own_past a.held.now) (cpu_past a.held.now) (record { seat = a._seat; action = a._action.now }) a._answer.now }
