use Rattle.boot_words.specs.{zone_of_boot, cpu_past, own_past}
use Rattle.boot_words.proofs.Drains.{PutsHeld}
use Rattle.boot_words.proofs.raw.BootWords.put_held.Given as goal

abbrev pub ghosts-take_one_by : goal.ghosts-take_one_by
ghosts-take_one_by a = record { post = PutsHeld (zone_of_boot a.self.now) (own_past a.held.now) (cpu_past a.held.now) a._seat a.frame }
