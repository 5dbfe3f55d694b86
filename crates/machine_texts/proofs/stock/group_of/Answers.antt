use Rattle.std.proofs.Common.{ap, ◌∙◌}
use Rattle.std.proofs.lemmas.Bool.{false≢true}
use Rattle.group_tree.proofs.CallerLemmas.{number_below}
use Rattle.group_tree.specs.Groups.{has_group}
use Rattle.machine_texts.proofs.Owners.{no_group}
use Rattle.machine_texts.proofs.stock.group_of.Goals as goal

pub returns-in_default : goal.returns-in_default
returns-in_default c = no_group c.args.tree.now c.args.number
    (λ there. c.in_default.ensures {u = tt} (number_below c.args.tree.now c.args.number c.prove_groups.ensures.legal there))

pub returns-else-contains : goal.returns-else-contains
returns-else-contains c = no_group c.args.tree.now c.args.number
    (λ there. false≢true (c.if-contains.ensures {u = tt} ∙ ap (has_group c.args.tree.now) c.in-Some.ensures.1 ∙ there))
