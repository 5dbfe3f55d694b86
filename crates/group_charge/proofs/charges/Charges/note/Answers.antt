use Rattle.std.proofs.Common.{IsTrue, length, sym, ap, ◌∙◌, subst, arith}
use Rattle.std.proofs.lemmas.List.{length-set}
use Rattle.group_tree.specs.{with_one_more, has_group}
use Rattle.group_charge.specs.{AreCharges, CountsEvent, Ledger, SamePages, SamePeaks, SameUsage, with_noted, account_by, accounts_of, ledger_of}
use Rattle.group_charge.proofs.ChargeLemmas.{AreCharges-noted, same_ledger}
use Rattle.group_charge.proofs.KeptLemmas.{kept_noted, number_in_room}
use Rattle.group_charge.proofs.ReaderLemmas.{note_counts, note_pages, note_peaks}
use Rattle.group_charge.proofs.StoredLemmas.{kept_as, stored_noted}
use Rattle.group_charge.proofs.UsageLemmas.{usage-noted}
use Rattle.group_charge.proofs.charges.Charges.note.Goals as goal

pub count_local_event-requires : goal.count_local_event-requires
count_local_event-requires c =
    let groups = c.self.inside.tree in
    let there : IsTrue (has_group groups c.args.group) = subst (λ (l : Ledger). IsTrue (has_group l.groups c.args.group)) (sym c.self.view_is) c.requires in
    let below = number_in_room groups c.args.group c.self.invariant.charges.groups there in
    record { there = omega (arith, below, c.count_event.ensures.size) }

pub returns-clause-noted : goal.returns-clause-noted
returns-clause-noted c =
    let groups = c.self.inside.tree in
    let old = c.self.inside.accounts.items in
    let there : IsTrue (has_group groups c.args.group) = subst (λ (l : Ledger). IsTrue (has_group l.groups c.args.group)) (sym c.self.view_is) c.requires in
    let below = number_in_room groups c.args.group c.self.invariant.charges.groups there in
    let same = kept_noted c.args.key groups old c.count_event.new.accounts.items c.args.group c.self.invariant.charges.numbers
    (omega (arith, below, c.count_event.ensures.size)) c.count_event.ensures.counted in
    same_ledger _ _ _ _ (ap (accounts_of groups) c.count_local_event.ensures.counted ∙ same) ∙ ap (λ l. with_noted c.args.key l c.args.group) c.self.view_is

pub invariant_of-self : goal.invariant_of-self
invariant_of-self c =
    let l = ledger_of c.self.inside.tree c.self.inside.accounts.items c.self.inside.settings in
    let mid = c.count_event.new.accounts.items in
    let a = account_by mid c.args.group in
    let size = ap length c.count_local_event.ensures.counted ∙ length-set mid c.args.group (record a { events_local = with_one_more c.args.key a.events_local })
    ∙ c.count_event.ensures.size in
    kept_as _ _ _ _ (with_noted c.args.key l c.args.group) (returns-clause-noted c ∙ ap (λ k. with_noted c.args.key k c.args.group) (sym c.self.view_is))
    (AreCharges-noted c.args.key l c.args.group c.self.invariant.charges) size
    (stored_noted c.args.key l c.self.inside.usages.items c.args.group c.self.invariant.usages_are)

pub returns-clause-only : goal.returns-clause-only
returns-clause-only c =
    let before = c.args.self.now in
    let same = sym (returns-clause-noted c) in record {
      counts = subst (λ l. CountsEvent c.args.key before l c.args.group) same
          (note_counts c.args.key before c.args.group (subst AreCharges c.self.view_is c.self.invariant.charges) c.requires);
      groups = ap (λ l. l.groups) (returns-clause-noted c);
      usage = subst (SameUsage before) same (λ m. usage-noted c.args.key before.groups before.accounts c.args.group m);
      pages = subst (SamePages before) same (note_pages c.args.key before c.args.group);
      peaks = subst (SamePeaks before) same (note_peaks c.args.key before c.args.group);
    }
