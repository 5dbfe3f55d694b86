use Rattle.std.proofs.Common.{◌≡◌, IsTrue, false, set, sym, ap, ◌∙◌, subst}
use Rattle.group_tree.specs.Groups.{has_child, has_group, without_group}
use Rattle.group_tree.proofs.GroupLemmas.{room_of-without}
use Rattle.group_charge.specs.{Ledger, SamePages, current_of, with_group_removed, ledger_of}
use Rattle.group_charge.proofs.ChargeLemmas.{AreCharges-removed, same_ledger}
use Rattle.group_charge.proofs.KeptLemmas.{kept_removed}
use Rattle.group_charge.proofs.ReaderLemmas.{removed_pages}
use Rattle.group_charge.proofs.StoredLemmas.{kept_as, stored_removed}
use Rattle.group_charge.proofs.charges.Charges.remove.Goals as goal

pub returns-clause-removed : goal.returns-clause-removed
returns-clause-removed c =
    ap (λ rows. ledger_of rows c.self.inside.accounts.items c.set.new.self) c.remove.ensures
    ∙ ap (ledger_of (without_group c.self.inside.tree c.args.group) c.self.inside.accounts.items) (c.set.ensures ∙ ap (set c.self.inside.settings c.args.group) c.none.ensures)
    ∙ same_ledger _ _ _ _ (kept_removed c.self.inside.tree c.self.inside.accounts.items c.args.group c.self.invariant.charges.numbers)
    ∙ ap (λ l. with_group_removed l c.args.group) c.self.view_is

pub invariant_of-self : goal.invariant_of-self
invariant_of-self c =
    let l = ledger_of c.self.inside.tree c.self.inside.accounts.items c.self.inside.settings in
    let there = subst (λ (k : Ledger). IsTrue (has_group k.groups c.args.group)) (sym c.self.view_is) c.requires.there in
    let leaf = subst (λ (k : Ledger). has_child k.groups c.args.group ≡ false) (sym c.self.view_is) c.requires.leaf in
    let empty = subst (λ (k : Ledger). current_of k c.args.group ≡ 0) (sym c.self.view_is) c.requires.empty in
    kept_as _ _ _ _ (with_group_removed l c.args.group) (returns-clause-removed c ∙ ap (λ k. with_group_removed k c.args.group) (sym c.self.view_is))
    (AreCharges-removed l c.args.group c.self.invariant.charges leaf c.requires.below_root)
    (c.self.invariant.size ∙ sym (room_of-without l.groups c.args.group c.requires.below_root))
    (stored_removed l c.self.inside.usages.items c.args.group c.requires.below_root c.self.invariant.charges there empty c.self.invariant.usages_are)

pub returns-clause-pages : goal.returns-clause-pages
returns-clause-pages c = subst (SamePages c.args.self.now) (sym (returns-clause-removed c))
    (removed_pages c.args.self.now c.args.group c.requires.there c.requires.empty)
