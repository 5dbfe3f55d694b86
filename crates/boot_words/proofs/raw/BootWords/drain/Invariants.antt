use Rattle.boot_words.specs.{zone_of_boot, cpu_of_word, cpu_past, own_past}
use Rattle.boot_words.proofs.Drains.{Drains, LooksToDrain}
use Rattle.boot_words.proofs.raw.BootWords.drain.Given as goal

abbrev pub ghosts-load : goal.ghosts-load
ghosts-load a = record { post = LooksToDrain (zone_of_boot a.self.now) (own_past a.seat.now) (cpu_past a.seat.now) (cpu_of_word a.word) }

abbrev pub ghosts-drain_of : goal.ghosts-drain_of
ghosts-drain_of a = record { post = Drains (zone_of_boot a.self.now) (own_past a.held.now) (cpu_past a.held.now) a.cpu }
