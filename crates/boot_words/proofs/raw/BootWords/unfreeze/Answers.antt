use Rattle.boot_words.proofs.Zoning.{frame_of_unfreeze, unfreezes}
use Rattle.step_rules.specs.declared.step.Action.TheVariants.{Unfreeze}
use Rattle.step_rules.specs.declared.step.Answer.TheVariants.{Done}
use Rattle.boot_words.proofs.UnderLock.{held_made}
use Rattle.boot_words.proofs.raw.BootWords.unfreeze.Goals as goal

pub store-requires-clause-place : goal.store-requires-clause-place
store-requires-clause-place c = frame_of_unfreeze c.args.self.now c.args.held.now c.args.frame c.args.count c.requires.legal

pub store-requires-clause-may : goal.store-requires-clause-may
store-requires-clause-may c = unfreezes c.args.self.now c.args.held.now c.args.frame c.args.count c.requires.held c.requires.legal

pub returns : goal.returns
returns c = held_made c.args.self.now c.args.held.now (record { seat = 0; action = Unfreeze c.args.frame c.args.count }) Done c.store.new.seat c.requires.held c.store.ensures.table c.store.ensures.post
