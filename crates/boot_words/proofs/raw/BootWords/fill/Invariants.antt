use Rattle.boot_words.specs.{zone_of_boot, cpu_past, own_past}
use Rattle.boot_words.proofs.Zoning.{fills_post}
use Rattle.boot_words.proofs.raw.BootWords.fill.Given as goal

abbrev pub ghosts-fill_with : goal.ghosts-fill_with
ghosts-fill_with a = record { post = λ found. fills_post (zone_of_boot a.self.now) (own_past a.seat.now) (cpu_past a.seat.now) a.cpu a.group a.pages }
