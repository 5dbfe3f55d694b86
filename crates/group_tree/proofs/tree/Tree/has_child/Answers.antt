use Rattle.std.proofs.Common.{◌==◌, ◌&&◌, Bool, not, Contains, sym, ap, ◌∙◌, subst}
use Rattle.std.specs.List.{list_any}
use Rattle.std.proofs.lemmas.List.{take_all}
use Rattle.group_tree.specs.Groups.{Group, has_child, in_subtree}
use Rattle.group_tree.proofs.GroupLemmas.{has_group-contains, any_contains}
use Rattle.group_tree.proofs.tree.Tree.has_child.Goals as goal

pub lies_below-requires-clause-below : goal.lies_below-requires-clause-below
lies_below-requires-clause-below c =
    let here : Contains c.deref-row-items.result.now c.row-item.result = (c.loop-row.row-index, c.loop-row-test.true, sym c.row-item.is) in
    has_group-contains c.args.self.now c.row-item.result
    (subst (λ rows. Contains rows c.row-item.result) (c.deref-row-items.ensures.value ∙ c.self.view_is) here)

pub returns-then-lies_below : goal.returns-then-lies_below
unfolding has_child
returns-then-lies_below c =
    let test : Group → Bool = λ h. not (h.number == c.args.group) && in_subtree c.args.self.now c.args.group h.number in
    sym (any_contains test c.deref-row-items.result.now c.row-item.result (c.loop-row.row-index, c.loop-row-test.true, sym c.row-item.is)
    (sym c.lies_below.ensures ∙ c.if-lies_below.true))
    ∙ ap (list_any test) (c.deref-row-items.ensures.value ∙ c.self.view_is)

pub returns : goal.returns
unfolding has_child
returns c =
    let test : Group → Bool = λ h. not (h.number == c.args.group) && in_subtree c.args.self.now c.args.group h.number in
    sym c.loop-row.invariant ∙ ap (list_any test) (take_all c.loop-row.row-index c.deref-row-items.result.now c.loop-row-test.false
    ∙ c.deref-row-items.ensures.value ∙ c.self.view_is)
