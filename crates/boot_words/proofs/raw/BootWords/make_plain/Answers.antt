use Rattle.boot_words.proofs.PlainSteps.{makes_plain}
use Rattle.boot_words.proofs.UnderLock.{held_made}
use Rattle.boot_words.proofs.raw.BootWords.make_plain.Goals as goal

pub plain_as-requires-clause-may : goal.plain_as-requires-clause-may
plain_as-requires-clause-may c =
    makes_plain c.args.self.now c.args.held.now (record { seat = c.args.seat; action = c.args.action.now }) c.args.answer.now c.requires.held c.requires.plain c.requires.step

pub returns : goal.returns
returns c = record {
  run = held_made c.args.self.now c.args.held.now (record { seat = c.args.seat; action = c.args.action.now }) c.args.answer.now c.plain_as.new.held c.requires.held c.plain_as.ensures.table c.plain_as.ensures.post;
}
