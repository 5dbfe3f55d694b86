use Rattle.boot_words.specs.{zone_of_boot, cpu_past, own_past}
use Rattle.boot_words.proofs.Visiting.{takes_post}
use Rattle.boot_words.proofs.raw.BootWords.consume_held.Given as goal

abbrev pub ghosts-take_page_of : goal.ghosts-take_page_of
ghosts-take_page_of a = record { post = takes_post (zone_of_boot a.self.now) (own_past a.held.now) (cpu_past a.held.now) a._group }
