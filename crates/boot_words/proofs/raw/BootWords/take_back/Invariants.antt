use Rattle.boot_words.specs.{take_back_run, zone_of_boot, cpu_past, own_past}
use Rattle.boot_words.proofs.InTurn.{MadeInTurn}
use Rattle.boot_words.proofs.raw.BootWords.take_back.Given as goal

abbrev pub ghosts-load_for : goal.ghosts-load_for
ghosts-load_for a = record { post = λ found. MadeInTurn (zone_of_boot a.self.now) (own_past a.held.now) (cpu_past a.held.now) (take_back_run a._cpu a._frame) }
