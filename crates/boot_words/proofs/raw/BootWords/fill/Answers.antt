use Rattle.boot_words.proofs.Zoning.{fills}
use Rattle.step_rules.specs.declared.step.Action.TheVariants.{Fill}
use Rattle.step_rules.specs.declared.step.Answer.TheVariants.{Done}
use Rattle.boot_words.proofs.UnderLock.{held_made}
use Rattle.boot_words.proofs.raw.BootWords.fill.Goals as goal

pub fill_with-requires-clause-may : goal.fill_with-requires-clause-may
fill_with-requires-clause-may c = fills c.args.self.now c.args.held.now c.args.cpu c.args.group c.args.pages c.requires.held c.requires.cpu c.requires.fits c.requires.nothing c.requires.legal

pub returns : goal.returns
returns c = held_made c.args.self.now c.args.held.now (record { seat = 0; action = Fill c.args.cpu c.args.group c.args.pages }) Done c.fill_with.new.seat c.requires.held c.fill_with.ensures.table c.fill_with.ensures.post
