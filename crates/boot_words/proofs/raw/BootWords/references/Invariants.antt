use Rattle.boot_words.specs.Seats.{frame_of_word}
use Rattle.boot_words.proofs.Looking.{SeesReferences}
use Rattle.boot_words.proofs.raw.BootWords.references.Given as goal

abbrev pub ghosts-load : goal.ghosts-load
ghosts-load a = record { post = SeesReferences a.self.now a.seat.now (frame_of_word a.word) }
