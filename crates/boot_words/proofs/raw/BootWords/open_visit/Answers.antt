use Rattle.step_rules.specs.declared.step.Action.TheVariants.{OpenVisit}
use Rattle.step_rules.specs.declared.step.Answer.TheVariants.{Done}
use Rattle.boot_words.proofs.Visiting.{holder_of_held, opens}
use Rattle.boot_words.proofs.UnderLock.{held_made}
use Rattle.boot_words.proofs.raw.BootWords.open_visit.Goals as goal

pub store-requires-clause-place : goal.store-requires-clause-place
store-requires-clause-place c = holder_of_held c.args.self.now c.args.held.now c.args.cpu c.requires.held c.requires.holder

pub store-requires-clause-may : goal.store-requires-clause-may
store-requires-clause-may c = opens c.args.self.now c.args.held.now c.args.cpu c.requires.held c.requires.legal

pub returns : goal.returns
returns c = held_made c.args.self.now c.args.held.now (record { seat = 0; action = OpenVisit c.args.cpu }) Done c.store.new.seat c.requires.held c.store.ensures.table c.store.ensures.post
