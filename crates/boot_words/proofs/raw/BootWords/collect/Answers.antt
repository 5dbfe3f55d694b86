use Rattle.boot_words.proofs.Visiting.{collected_made, collects_held, frame_of_collect}
use Rattle.boot_words.proofs.raw.BootWords.collect.Goals as goal

pub store-requires-clause-place : goal.store-requires-clause-place
store-requires-clause-place c = frame_of_collect c.args.self.now c.args.held.now c.args.cpu c.args.frame c.requires.legal

pub store-requires-clause-may : goal.store-requires-clause-may
store-requires-clause-may c = collects_held c.args.self.now c.args.held.now c.args.cpu c.args.frame c.requires.held c.requires.holder c.requires.legal

pub returns : goal.returns
returns c = collected_made c.args.self.now c.args.held.now c.args.cpu c.args.frame 0 c.store.new.seat c.requires.held c.requires.holder c.store.ensures.table c.store.ensures.post
