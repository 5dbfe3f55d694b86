use Rattle.std.proofs.Common.{IsTrue, ◌∷◌, length, sym, ap, ◌∙◌, subst, rules}
use Rattle.group_tree.specs.{has_group, ancestors_from, is_there}
use Rattle.group_tree.proofs.AncestorLemmas.{ancestors_of-step, parent-is_there}
use Rattle.group_tree.proofs.ancestors.AncestorsIterator.next.Goals as goal

pub invariant_of-self : goal.invariant_of-self
invariant_of-self c =
    let tree = c.self.inside.tree.now in
    record {
      groups_are = c.self.invariant.groups_are;
      there = subst (λ o. IsTrue (is_there tree o)) (sym c.parent-self-inside.ensures.value)
          (parent-is_there tree c.in_ok-group.group c.self.invariant.groups_are);
    }

pub returns-clause-steps : goal.returns-clause-steps
returns-clause-steps c =
    let tree = c.self.inside.tree.now in
    let there : IsTrue (has_group tree c.in_ok-group.group) = subst (λ o. IsTrue (is_there tree o)) c.in_ok-group.was c.self.invariant.there in
    sym c.self.view_is ∙ ap (ancestors_from tree) c.in_ok-group.was
    ∙ ancestors_of-step tree c.in_ok-group.group c.self.invariant.groups_are there
    ∙ ap (λ o. c.in_ok-group.group ∷ ancestors_from tree o) (sym c.parent-self-inside.ensures.value)

pub returns-clause-goes : goal.returns-clause-goes
returns-clause-goes c =
    let shorter = ap length (returns-clause-steps c) in
    search rules
