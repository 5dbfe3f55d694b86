use Rattle.std.proofs.Common.{◌<◌, sym, subst}
use Rattle.stock_word.specs.Stock.{HasWord, group_base}
use Rattle.boot_words.specs.Pasts.{local_by_pasts}
use Rattle.boot_words.proofs.Visiting.{holder_of_held}
use Rattle.boot_words.proofs.Looking.{same_seat, sees_stock, stock_is}
use Rattle.boot_words.proofs.raw.BootWords.look.Goals as goal

pub load-found-requires-clause-place : goal.load-found-requires-clause-place
load-found-requires-clause-place c = (holder_of_held c.args.self.now c.args.held.now c.args.cpu c.requires.held c.requires.holder).1

pub load-found-requires-clause-may : goal.load-found-requires-clause-may
load-found-requires-clause-may c = sees_stock c.args.self.now c.args.held.now c.args.cpu c.requires.held c.requires.holder

pub returns-clause-stock : goal.returns-clause-stock
returns-clause-stock c = stock_is c.args.self.now c.args.held.now c.args.cpu c.load-found.result c.load-found.new.seat.pasts c.of_word.result c.requires.holder c.load-found.ensures.post c.of_word.ensures

pub returns-clause-has_word : goal.returns-clause-has_word
returns-clause-has_word c = subst HasWord (sym (c.of_word.ensures _ c.load-found.ensures.post.fits c.load-found.ensures.post.word)) c.load-found.ensures.post.fits

pub returns-clause-bounded : goal.returns-clause-bounded
returns-clause-bounded c = subst (λ q. ((local_by_pasts c.args.self.now c.args.held.now).parts q).book < group_base) (sym c.requires.holder) c.load-found.ensures.post.few

pub returns-clause-same : goal.returns-clause-same
returns-clause-same c = same_seat c.args.self.now c.args.held.now c.load-found.new.seat c.requires.held c.load-found.ensures.table c.load-found.ensures.post.later_is
