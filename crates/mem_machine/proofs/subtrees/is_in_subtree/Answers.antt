use Rattle.std.proofs.Common.{◌≡◌, true, ◌∙◌, sym}
use Rattle.std.proofs.lemmas.Bool.{both_ways, false_from_ne_true}
use Rattle.group_tree.specs.Groups.{in_subtree}
use Rattle.group_tree.proofs.CallerLemmas.{in_subtree-above, in_subtree-below}
use Rattle.mem_machine.proofs.subtrees.is_in_subtree.Goals.{then-contains, else-contains}
use Rattle.mem_machine.proofs.subtrees.is_in_subtree.Goals as goal

pub returns-else-contains-2 : goal.returns-else-contains-2
returns-else-contains-2 c =
    c.if-contains-2.false ∙ sym (false_from_ne_true _ (λ (is : in_subtree c.args.tree.now c.args.group c.args.other ≡ true).
    elim c.if-contains.branch [
      | then-contains w ↦
          both_ways c.if-contains.value c.if-contains-2.false (w.value-is ∙ w.contains-then-contains.ensures
          ∙ in_subtree-below c.args.tree.now c.args.group c.args.other is)
      | else-contains w ↦
          both_ways c.contains.result w.if-contains.false (c.contains.ensures ∙ in_subtree-above c.args.tree.now c.args.group c.args.other is)
    ]))
