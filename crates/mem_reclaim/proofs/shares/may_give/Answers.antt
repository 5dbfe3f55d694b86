use Rattle.std.proofs.Common.{◌≡◌, ◌∙◌, List, true, ap, subst, sym}
use Rattle.std.proofs.lemmas.Bool.{both_ways}
use Rattle.group_tree.specs.declared.group.Group.{Group}
use Rattle.group_tree.specs.Groups.{in_subtree}
use Rattle.group_tree.proofs.CallerLemmas.{in_subtree-below}
use Rattle.group_charge.specs.Charges.{Ledger}
use Rattle.mem_reclaim.proofs.Giving.{may_give_is, may_give_none}
use Rattle.mem_reclaim.proofs.shares.may_give.Goals as goal

pub returns-then-not-is_in_subtree : goal.returns-then-not-is_in_subtree
returns-then-not-is_in_subtree g c =
    let groups = c.tree.ensures.tree ∙ ap (λ (l : Ledger). l.groups) c.charges-charges.ensures in
    sym (may_give_none c.args.machine.now c.args.target c.args.group (λ inside.
    both_ways c.is_in_subtree.result c.if-not-is_in_subtree.true (c.is_in_subtree.ensures
    ∙ ap (λ (rows : List Group). in_subtree rows c.args.target c.args.group) groups ∙ inside)))

-- the group is in the subtree
pub current-requires : goal.current-requires
current-requires g c =
    in_subtree-below c.charges-charges.result.now.groups c.args.target c.args.group
    (subst (λ (rows : List Group). in_subtree rows c.args.target c.args.group ≡ true) c.tree.ensures.tree (sym c.is_in_subtree.ensures ∙ c.if-not-is_in_subtree.false))

pub protection_of-protection-requires : goal.protection_of-protection-requires
protection_of-protection-requires g c =
    in_subtree-below c.charges-charges.result.now.groups c.args.target c.args.group
    (subst (λ (rows : List Group). in_subtree rows c.args.target c.args.group ≡ true) c.tree.ensures.tree (sym c.is_in_subtree.ensures ∙ c.if-not-is_in_subtree.false))

pub returns : goal.returns
returns g c =
    let p = c.protection_of-protection.ensures in
    let groups = c.tree.ensures.tree ∙ ap (λ (l : Ledger). l.groups) c.charges-charges.ensures in
    let inside = subst (λ (rows : List Group). in_subtree rows c.args.target c.args.group ≡ true) groups (sym c.is_in_subtree.ensures ∙ c.if-not-is_in_subtree.false) in
    may_give_is c.args.machine.now c.charges-charges.result.now c.args.target c.args.group _ _ _ _ _ _ _ c.charges-charges.ensures inside c.clean_pages.ensures
    c.current.ensures p.min p.low c.spared_by.ensures (c.from.ensures ∙ c.saturating_sub-rest.ensures) c.min.ensures
