use Rattle.boot_words.proofs.InTurn.{made_in_turn, takes_back}
use Rattle.boot_words.specs.Composed.{take_back_run}
use Rattle.boot_words.proofs.raw.BootWords.take_back.Goals as goal

pub load_for-requires-clause-may : goal.load_for-requires-clause-may
load_for-requires-clause-may c = takes_back c.args.self.now c.args.held.now c.args.cpu c.args.frame c.requires.held c.requires.holder c.requires.legal c.requires.absorbed

pub returns : goal.returns
returns c = made_in_turn c.args.self.now c.args.held.now (take_back_run c.args.cpu c.args.frame) c.load_for.new.held c.requires.held c.load_for.ensures.table c.load_for.ensures.post
