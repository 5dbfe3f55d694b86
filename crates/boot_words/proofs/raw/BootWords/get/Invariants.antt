use Rattle.boot_words.specs.Pasts.{own_past}
use Rattle.boot_words.proofs.raw.BootWords.get.Given as goal

abbrev pub ghost-get_since : goal.ghost-get_since
ghost-get_since a = own_past a.seat.now
