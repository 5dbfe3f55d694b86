use Rattle.boot_words.proofs.Looking.{same_zone, sees_references}
use Rattle.boot_words.proofs.raw.BootWords.references.Goals as goal

pub load-requires-clause-may : goal.load-requires-clause-may
load-requires-clause-may c =
    sees_references c.args.self.now c.args.zone.now c.args.frame c.requires.zone c.requires.free c.requires.frame c.requires.reference

pub returns-clause-counted : goal.returns-clause-counted
returns-clause-counted c = c.load.ensures.post.counted

pub returns-clause-some : goal.returns-clause-some
returns-clause-some c = c.load.ensures.post.some

pub returns-clause-most : goal.returns-clause-most
returns-clause-most c = c.load.ensures.post.most

pub returns-clause-same : goal.returns-clause-same
returns-clause-same c = same_zone c.args.self.now c.args.zone.now c.load.new.seat c.requires.zone c.load.ensures.table c.load.ensures.post.later_is
