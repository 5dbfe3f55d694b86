use Rattle.std.proofs.Common.{sym, ap, ◌∙◌, subst}
use Rattle.group_tree.specs.Groups.{has_group}
use Rattle.group_tree.proofs.GroupLemmas.{room_of-limited}
use Rattle.group_tree.proofs.CallerLemmas.{has_group-limited}
use Rattle.group_charge.specs.{Ledger, SamePages, with_group_limit, ledger_of}
use Rattle.group_charge.proofs.ChargeLemmas.{AreCharges-limited, same_ledger}
use Rattle.group_charge.proofs.KeptLemmas.{kept_limited}
use Rattle.group_charge.proofs.ReaderLemmas.{limit_pages}
use Rattle.group_charge.proofs.StoredLemmas.{kept_as, stored_limited}
use Rattle.group_charge.proofs.charges.Charges.set_max.Goals as goal

pub returns-clause-limited : goal.returns-clause-limited
returns-clause-limited c =
    ap (λ rows. ledger_of rows c.self.inside.accounts.items c.self.inside.settings) c.set_max.ensures
    ∙ same_ledger _ _ _ _ (kept_limited c.self.inside.tree c.self.inside.accounts.items c.args.group c.args.limit)
    ∙ ap (λ l. with_group_limit l c.args.group c.args.limit) c.self.view_is

pub invariant_of-self : goal.invariant_of-self
invariant_of-self c =
    let l = ledger_of c.self.inside.tree c.self.inside.accounts.items c.self.inside.settings in
    kept_as _ _ _ _ (with_group_limit l c.args.group c.args.limit) (returns-clause-limited c
    ∙ ap (λ k. with_group_limit k c.args.group c.args.limit) (sym c.self.view_is))
    (AreCharges-limited l c.args.group c.args.limit c.self.invariant.charges)
    (c.self.invariant.size ∙ sym (room_of-limited l.groups c.args.group c.args.limit))
    (stored_limited l c.self.inside.usages.items c.args.group c.args.limit c.self.invariant.usages_are)

pub returns-clause-pages : goal.returns-clause-pages
returns-clause-pages c = subst (SamePages c.args.self.now) (sym (returns-clause-limited c)) (limit_pages c.args.self.now c.args.group c.args.limit)

pub returns-clause-there : goal.returns-clause-there
returns-clause-there c = λ m.
    ap (λ (l : Ledger). has_group l.groups m) (returns-clause-limited c) ∙ has_group-limited c.args.self.now.groups c.args.group m c.args.limit
