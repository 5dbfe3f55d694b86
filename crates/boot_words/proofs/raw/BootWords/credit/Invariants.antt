use Rattle.stock_word.specs.declared.stock.Stock.TheVariants.{DrainedOf, HeldBy}
use Rattle.step_rules.specs.declared.step.Action.TheVariants.{Credit}
use Rattle.step_rules.specs.declared.step.Answer.TheVariants.{Stocked}
use Rattle.boot_words.specs.{zone_of_boot, own_past}
use Rattle.boot_words.proofs.Prepaying.{TellsPage}
use Rattle.boot_words.proofs.raw.BootWords.credit.Given as goal

abbrev pub ghosts-exchange_stock : goal.ghosts-exchange_stock
ghosts-exchange_stock a = record { post = TellsPage (zone_of_boot a.self.now) (own_past a.seat.now) (Credit a._frame) Stocked (HeldBy a.group a.before) (HeldBy a.group a.after) (DrainedOf a.group) }
