use Rattle.std.proofs.Common.{◌≡◌, ◌≢◌, Some, List, sym, ap, ◌∙◌, arith}
use Rattle.std.proofs.lemmas.Bool.{eq-eqb, eqb-true, false≢true}
use Rattle.group_tree.specs.declared.group.Group.{Group}
use Rattle.group_tree.specs.Groups.{parent_of}
use Rattle.group_tree.proofs.AncestorLemmas.{parent_of-there}
use Rattle.group_tree.proofs.Walks.{parent_depth}
use Rattle.group_protection.specs.Protections.{effective, share_of}
use Rattle.group_protection.proofs.Effective.{effective-none, effective-share, effective-target, effective-top}
use Rattle.group_protection.proofs.protecting.+effective.Goals as goal

pub returns-then-eq : goal.returns-then-eq
returns-then-eq t c =
    let at : c.args.group ≡ c.args.target = eqb-true c.args.group c.args.target (sym c.eq.ensures ∙ c.if-eq.true) in
    sym (ap (effective c.args.key c.args.charges.now c.args.target) at ∙ effective-target c.args.key c.args.charges.now c.args.target)

pub returns-in_default : goal.returns-in_default
returns-in_default t c =
    sym (effective-none c.args.key c.args.charges.now c.args.target c.args.group
    (ap (λ (groups : List Group). parent_of groups c.args.group) (sym c.tree.ensures.tree) ∙ sym c.in_default.ensures.value))

pub returns-then-eq-2 : goal.returns-then-eq-2
returns-then-eq-2 t c =
    let up : parent_of c.args.charges.now.groups c.args.group ≡ Some c.in-Some.parent =
    ap (λ (groups : List Group). parent_of groups c.args.group) (sym c.tree.ensures.tree) ∙ sym c.in-Some.ensures.value in
    let other : c.args.group ≢ c.args.target = λ at. false≢true (sym c.if-eq.false ∙ c.eq.ensures ∙ eq-eqb c.args.group c.args.target at) in
    c.setting.ensures
    ∙ sym (effective-top c.args.key c.args.charges.now c.args.target c.tree.ensures.legal.groups c.args.group c.in-Some.parent other up
    (eqb-true c.in-Some.parent c.args.target (sym c.eq-2.ensures ∙ c.if-eq-2.true)))

pub effective-requires : goal.effective-requires
effective-requires t c =
    let up : parent_of c.args.charges.now.groups c.args.group ≡ Some c.in-Some.parent =
    ap (λ (groups : List Group). parent_of groups c.args.group) (sym c.tree.ensures.tree) ∙ sym c.in-Some.ensures.value in
    let less = parent_depth c.args.charges.now.groups c.args.group c.in-Some.parent c.tree.ensures.legal.groups up in (
      omega (arith, less, c.decreases),
      parent_of-there c.args.charges.now.groups c.args.group c.in-Some.parent c.tree.ensures.legal.groups up,
    )

pub current-requires : goal.current-requires
current-requires t c =
    let up : parent_of c.args.charges.now.groups c.args.group ≡ Some c.in-Some.parent =
    ap (λ (groups : List Group). parent_of groups c.args.group) (sym c.tree.ensures.tree) ∙ sym c.in-Some.ensures.value in
    parent_of-there c.args.charges.now.groups c.args.group c.in-Some.parent c.tree.ensures.legal.groups up

pub returns : goal.returns
returns t c =
    let up : parent_of c.args.charges.now.groups c.args.group ≡ Some c.in-Some.parent =
    ap (λ (groups : List Group). parent_of groups c.args.group) (sym c.tree.ensures.tree) ∙ sym c.in-Some.ensures.value in
    let other : c.args.group ≢ c.args.target = λ at. false≢true (sym c.if-eq.false ∙ c.eq.ensures ∙ eq-eqb c.args.group c.args.target at) in
    let away : c.in-Some.parent ≢ c.args.target = λ at. false≢true (sym c.if-eq-2.false ∙ c.eq-2.ensures ∙ eq-eqb c.in-Some.parent c.args.target at) in
    c.share_of.ensures
    ∙ (λ i. share_of (c.effective.ensures i) (c.claimed.ensures i) (c.current.ensures i) (c.used.ensures i) (c.current-2.ensures i))
    ∙ sym (effective-share c.args.key c.args.charges.now c.args.target c.tree.ensures.legal.groups c.args.group c.in-Some.parent other up away)
