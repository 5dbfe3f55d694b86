use Rattle.std.proofs.Common.{◌<◌, IsTrue, Some, length, sym, ap, ◌∙◌, subst, arith}
use Rattle.group_tree.specs.Groups.{has_group}
use Rattle.group_charge.specs.Charges.{Ledger, account_at, empty_account}
use Rattle.group_charge.proofs.KeptLemmas.{account_kept, number_in_room, read_at}
use Rattle.group_charge.proofs.charges.Charges.account.Goals as goal

pub index-requires : goal.index-requires
index-requires c =
    let there : IsTrue (has_group c.self.inside.tree c.args.group) = subst (λ (l : Ledger). IsTrue (has_group l.groups c.args.group)) (sym c.self.view_is) c.requires in
    let below = number_in_room c.self.inside.tree c.args.group c.self.invariant.charges.groups there in
    omega (arith, below, c.self.invariant.size, c.number.ensures.value, c.self.inside.accounts.ok.0)

pub returns : goal.returns
returns c =
    let kept = c.self.inside.accounts.items in
    let there : IsTrue (has_group c.self.inside.tree c.args.group) = subst (λ (l : Ledger). IsTrue (has_group l.groups c.args.group)) (sym c.self.view_is) c.requires in
    let below = number_in_room c.self.inside.tree c.args.group c.self.invariant.charges.groups there in
    let within : c.number.result < length kept = omega (arith, below, c.self.invariant.size, c.number.ensures.value) in
    ap (λ l. account_at l c.args.group) (sym c.self.view_is) ∙ account_kept c.self.inside.tree kept c.self.inside.settings c.args.group c.self.invariant.charges there
    ∙ ap Some (sym (c.index.ensures ∙ read_at kept c.number.result c.args.group c.index.result.now (empty_account 0) within c.number.ensures.value))
