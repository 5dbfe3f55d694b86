use Rattle.boot_words.specs.{zone_of_boot, frame_of_word, own_past}
use Rattle.boot_words.proofs.Referring.{Adds, Sees}
use Rattle.boot_words.proofs.raw.BootWords.get_since.Given as goal

abbrev pub ghosts-load : goal.ghosts-load
ghosts-load g a = record { post = Sees (zone_of_boot a.self.now) (own_past a.seat.now) (frame_of_word a.word) }

abbrev pub ghosts-exchange : goal.ghosts-exchange
ghosts-exchange g a = record { post = Adds (zone_of_boot a.self.now) g.before (frame_of_word a.word) a.old }
