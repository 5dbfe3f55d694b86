use Rattle.boot_words.specs.{zone_of_boot, cpu_past, own_past}
use Rattle.boot_words.proofs.Looking.{SeesStock}
use Rattle.boot_words.proofs.raw.BootWords.look.Given as goal

abbrev pub ghosts-load : goal.ghosts-load
ghosts-load a = record { post = SeesStock (zone_of_boot a.self.now) (own_past a.seat.now) (cpu_past a.seat.now) }
