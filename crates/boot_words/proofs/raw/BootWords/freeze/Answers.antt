use Rattle.boot_words.proofs.Zoning.{frame_of_freeze, freezes, froze}
use Rattle.boot_words.proofs.raw.BootWords.freeze.Goals as goal

pub exchange-requires-clause-place : goal.exchange-requires-clause-place
exchange-requires-clause-place c = frame_of_freeze c.args.self.now c.args.held.now c.args.frame c.args.count c.requires.legal

pub exchange-requires-clause-may : goal.exchange-requires-clause-may
exchange-requires-clause-may c = freezes c.args.self.now c.args.held.now c.args.frame c.args.count c.requires.held c.requires.legal

pub returns : goal.returns
returns c = froze c.args.self.now c.args.held.now c.args.frame c.args.count c.exchange.result c.exchange.new.seat c.requires.held c.exchange.ensures.table c.exchange.ensures.post
