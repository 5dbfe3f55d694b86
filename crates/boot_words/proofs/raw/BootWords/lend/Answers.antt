use Rattle.boot_words.proofs.InTurn.{lends, made_in_turn}
use Rattle.boot_words.specs.Composed.{lend_run}
use Rattle.boot_words.proofs.raw.BootWords.lend.Goals as goal

pub load_for-requires-clause-may : goal.load_for-requires-clause-may
load_for-requires-clause-may c = lends c.args.self.now c.args.held.now c.args.cpu c.args.frame c.requires.held c.requires.holder c.requires.legal

pub returns : goal.returns
returns c = made_in_turn c.args.self.now c.args.held.now (lend_run c.args.cpu c.args.frame) c.load_for.new.held c.requires.held c.load_for.ensures.table c.load_for.ensures.post
