use Rattle.std.proofs.Common.{◌<◌, ◌∙◌, sym, subst}
use Rattle.std.specs.Prelude.{IfSome}
use Rattle.group_tree.specs.Bounds.{most_groups}
use Rattle.boot_words.proofs.Looking.{group_fits, group_is, same_seat, sees_group}
use Rattle.boot_words.proofs.raw.BootWords.group.Goals as goal

pub load-requires-clause-place : goal.load-requires-clause-place
load-requires-clause-place c = c.requires.cpu.1

pub load-requires-clause-may : goal.load-requires-clause-may
load-requires-clause-may c = sees_group c.args.self.now c.args.held.now c.args.cpu c.requires.held c.requires.cpu.0 c.requires.cpu.1

pub returns-clause-group : goal.returns-clause-group
returns-clause-group c = c.group.ensures ∙ group_is c.args.self.now c.args.held.now c.args.cpu c.load.result c.load.new.seat.pasts c.of_word.result c.load.ensures.post c.of_word.ensures

pub returns-clause-fits : goal.returns-clause-fits
returns-clause-fits c =
    subst (λ o. IfSome o (λ g. g < most_groups)) (sym c.group.ensures)
    (group_fits c.args.self.now c.args.held.now c.args.cpu c.load.result c.load.new.seat.pasts c.of_word.result c.load.ensures.post c.of_word.ensures)

pub returns-clause-same : goal.returns-clause-same
returns-clause-same c = same_seat c.args.self.now c.args.held.now c.load.new.seat c.requires.held c.load.ensures.table c.load.ensures.post.later_is
