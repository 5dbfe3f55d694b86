use Rattle.boot_words.specs.{zone_of_boot, frame_of_word, cpu_past, own_past}
use Rattle.boot_words.proofs.Zoning.{unfreezes_post}
use Rattle.boot_words.proofs.raw.BootWords.unfreeze.Given as goal

abbrev pub ghosts-store : goal.ghosts-store
ghosts-store a = record { post = unfreezes_post (zone_of_boot a.self.now) (own_past a.seat.now) (cpu_past a.seat.now) (frame_of_word a.word) a.new }
