use Rattle.boot_words.specs.{zone_of_boot, cpu_of_word, cpu_past, own_past}
use Rattle.boot_words.proofs.Looking.{SeesGroup}
use Rattle.boot_words.proofs.raw.BootWords.group.Given as goal

abbrev pub ghosts-load : goal.ghosts-load
ghosts-load a = record { post = SeesGroup (zone_of_boot a.self.now) (own_past a.seat.now) (cpu_past a.seat.now) (cpu_of_word a.word) }
