use Rattle.std.proofs.Common.{sym, ap, ◌∙◌, subst}
use Rattle.group_tree.specs.Groups.{has_group}
use Rattle.group_tree.proofs.GroupLemmas.{room_of-flagged}
use Rattle.group_tree.proofs.CallerLemmas.{has_group-flagged}
use Rattle.group_charge.specs.{Ledger, SamePages, with_oom_flag, ledger_of}
use Rattle.group_charge.proofs.ChargeLemmas.{AreCharges-flagged, same_ledger}
use Rattle.group_charge.proofs.KeptLemmas.{kept_flagged}
use Rattle.group_charge.proofs.ReaderLemmas.{flag_pages}
use Rattle.group_charge.proofs.StoredLemmas.{kept_as, stored_flagged}
use Rattle.group_charge.proofs.charges.Charges.set_oom_group.Goals as goal

pub returns-clause-flagged : goal.returns-clause-flagged
returns-clause-flagged c =
    ap (λ rows. ledger_of rows c.self.inside.accounts.items c.self.inside.settings) c.set_oom_group.ensures
    ∙ same_ledger _ _ _ _ (kept_flagged c.self.inside.tree c.self.inside.accounts.items c.args.group c.args.oom_group)
    ∙ ap (λ l. with_oom_flag l c.args.group c.args.oom_group) c.self.view_is

pub invariant_of-self : goal.invariant_of-self
invariant_of-self c =
    let l = ledger_of c.self.inside.tree c.self.inside.accounts.items c.self.inside.settings in
    kept_as _ _ _ _ (with_oom_flag l c.args.group c.args.oom_group) (returns-clause-flagged c
    ∙ ap (λ k. with_oom_flag k c.args.group c.args.oom_group) (sym c.self.view_is))
    (AreCharges-flagged l c.args.group c.args.oom_group c.self.invariant.charges c.requires.below_root)
    (c.self.invariant.size ∙ sym (room_of-flagged l.groups c.args.group c.args.oom_group))
    (stored_flagged l c.self.inside.usages.items c.args.group c.args.oom_group c.self.invariant.usages_are)

pub returns-clause-pages : goal.returns-clause-pages
returns-clause-pages c = subst (SamePages c.args.self.now) (sym (returns-clause-flagged c)) (flag_pages c.args.self.now c.args.group c.args.oom_group)

pub returns-clause-there : goal.returns-clause-there
returns-clause-there c = λ m.
    ap (λ (l : Ledger). has_group l.groups m) (returns-clause-flagged c) ∙ has_group-flagged c.args.self.now.groups c.args.group m c.args.oom_group
