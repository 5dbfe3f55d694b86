use Rattle.boot_words.specs.{zone_of_boot, cpu_of_word, cpu_past, own_past}
use Rattle.boot_words.proofs.Visiting.{opens_post}
use Rattle.boot_words.proofs.raw.BootWords.open_visit.Given as goal

abbrev pub ghosts-store : goal.ghosts-store
ghosts-store a = record { post = opens_post (zone_of_boot a.self.now) (own_past a.seat.now) (cpu_past a.seat.now) (cpu_of_word a.word) }
