use Rattle.boot_words.specs.{zone_of_boot, frame_of_word, own_past}
use Rattle.boot_words.proofs.Referring.{Puts}
use Rattle.boot_words.proofs.raw.BootWords.put_one.Given as goal

abbrev pub ghosts-take_one : goal.ghosts-take_one
ghosts-take_one a = record { post = Puts (zone_of_boot a.self.now) (own_past a.seat.now) (frame_of_word a.word) }
