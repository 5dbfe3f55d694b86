use Rattle.std.proofs.Common.{◌≡◌, ◌<◌, ◌+◌, ◌^◌, IsTrue, None, length, set, sym, ap, ◌∙◌, subst, arith, rules}
use Rattle.group_tree.specs.Groups.{has_group}
use Rattle.group_charge.specs.Charges.{Account, AreCharges, Ledger, PagesRise, PeaksRise, SameEvents, UsageRises, current_of, empty_account, with_charge}
use Rattle.group_charge.specs.Kept.{UsagesPassed, account_by, ledger_of}
use Rattle.group_charge.proofs.ChargeLemmas.{AreCharges-charged, charge_rises, same_ledger, usage-le-root}
use Rattle.group_charge.proofs.KeptLemmas.{kept_charged, kept_pages, number_in_room, read_at}
use Rattle.group_charge.proofs.ReaderLemmas.{charge_events, charge_pages, charge_peaks, pages-le-current}
use Rattle.group_charge.proofs.StoredLemmas.{kept_as, stored_charged}
use Rattle.group_charge.proofs.charges.Charges.try_charge.Goals as goal

pub add_until_over-requires-clause-fits : goal.add_until_over-requires-clause-fits
add_until_over-requires-clause-fits c = λ m.
    let l = ledger_of c.self.inside.tree c.self.inside.accounts.items c.self.inside.settings in
    let fits : current_of l 0 + c.args.pages < 2 ^ 32 = subst (λ k. current_of k 0 + c.args.pages < 2 ^ 32) (sym c.self.view_is) c.requires.fits in
    let low = usage-le-root l m c.self.invariant.charges in
    let stored = c.self.invariant.usages_are.sums m in
    omega arith

pub index_mut-requires : goal.index_mut-requires
index_mut-requires c =
    let groups = c.self.inside.tree in
    let there : IsTrue (has_group groups c.args.group) = subst (λ (l : Ledger). IsTrue (has_group l.groups c.args.group)) (sym c.self.view_is) c.requires.there in
    let below = number_in_room groups c.args.group c.self.invariant.charges.groups there in
    omega (arith, below, c.self.invariant.size, c.number.ensures.value, c.self.inside.accounts.ok.0)

pub overflow_add-index_mut : goal.overflow_add-index_mut
overflow_add-index_mut c =
    let l = ledger_of c.self.inside.tree c.self.inside.accounts.items c.self.inside.settings in
    let kept = c.self.inside.accounts.items in
    let there : IsTrue (has_group l.groups c.args.group) = subst (λ (k : Ledger). IsTrue (has_group k.groups c.args.group)) (sym c.self.view_is) c.requires.there in
    let fits : current_of l 0 + c.args.pages < 2 ^ 32 = subst (λ k. current_of k 0 + c.args.pages < 2 ^ 32) (sym c.self.view_is) c.requires.fits in
    let below = number_in_room l.groups c.args.group c.self.invariant.charges.groups there in
    let within : c.number.result < length kept = omega (arith, below, c.self.invariant.size, c.number.ensures.value) in
    let read : c.index_mut.result.now ≡ account_by kept c.args.group = c.index_mut.ensures.value
    ∙ read_at kept c.number.result c.args.group c.index_mut.result.now (empty_account 0) within c.number.ensures.value in
    let own = kept_pages c.self.inside.tree kept c.self.inside.settings c.args.group c.self.invariant.charges there in
    let part = pages-le-current l c.args.group there in
    let low = usage-le-root l c.args.group c.self.invariant.charges in
    omega (arith, ap (λ (a : Account). a.pages) read, own, part, low, fits)

pub returns-clause-charged : goal.returns-clause-charged
returns-clause-charged c =
    let groups = c.self.inside.tree in
    let kept = c.self.inside.accounts.items in
    let l = ledger_of groups kept c.self.inside.settings in
    let there : IsTrue (has_group groups c.args.group) = subst (λ (k : Ledger). IsTrue (has_group k.groups c.args.group)) (sym c.self.view_is) c.requires.there in
    let also : c.args.group < length kept = omega (arith, number_in_room groups c.args.group c.self.invariant.charges.groups there, c.self.invariant.size) in
    let within : c.number.result < length kept = omega (arith, also, c.number.ensures.value) in
    let was = c.index_mut.result.now in
    let read : was ≡ account_by kept c.args.group = c.index_mut.ensures.value
    ∙ read_at kept c.number.result c.args.group was (empty_account 0) within c.number.ensures.value in
    let mid : set kept c.number.result (record was { pages = was.pages + c.args.pages })
    ≡ set kept c.args.group (record (account_by kept c.args.group) { pages = (account_by kept c.args.group).pages + c.args.pages }) =
    ap (λ (a : Account). set kept c.number.result (record a { pages = a.pages + c.args.pages })) read
    ∙ ap (λ k. set kept k (record (account_by kept c.args.group) { pages = (account_by kept c.args.group).pages + c.args.pages })) c.number.ensures.value in
    let none : c.add_until_over.result ≡ None = c.in_default.is in
    let added = subst (λ o. UsagesPassed groups c.args.group o (λ pages. pages + c.args.pages) c.self.inside.usages.items c.add_until_over.new.usages.items) none c.add_until_over.ensures.added in
    let are = stored_charged l c.self.inside.usages.items c.add_until_over.new.usages.items c.args.group c.args.pages c.self.invariant.charges there c.self.invariant.usages_are
    c.add_until_over.ensures.size added in
    same_ledger _ _ _ _ (kept_charged groups kept _ c.raise_peaks.new.accounts.items c.self.inside.settings c.add_until_over.new.usages.items c.args.group c.args.pages c.self.invariant.charges also
    mid are c.raise_peaks.ensures.raised)
    ∙ ap (λ k. with_charge k c.args.group c.args.pages) c.self.view_is

pub invariant_of-self-2 : goal.invariant_of-self-2
invariant_of-self-2 c =
    let groups = c.self.inside.tree in
    let l = ledger_of groups c.self.inside.accounts.items c.self.inside.settings in
    let there : IsTrue (has_group groups c.args.group) = subst (λ (k : Ledger). IsTrue (has_group k.groups c.args.group)) (sym c.self.view_is) c.requires.there in
    let fits : current_of l 0 + c.args.pages < 2 ^ 32 = subst (λ k. current_of k 0 + c.args.pages < 2 ^ 32) (sym c.self.view_is) c.requires.fits in
    let none : c.add_until_over.result ≡ None = c.in_default.is in
    let added = subst (λ o. UsagesPassed groups c.args.group o (λ pages. pages + c.args.pages) c.self.inside.usages.items c.add_until_over.new.usages.items) none c.add_until_over.ensures.added in
    kept_as _ _ _ _ (with_charge l c.args.group c.args.pages) (returns-clause-charged c ∙ ap (λ k. with_charge k c.args.group c.args.pages) (sym c.self.view_is))
    (AreCharges-charged l c.args.group c.args.pages c.self.invariant.charges there fits) c.raise_peaks.ensures.size
    (stored_charged l c.self.inside.usages.items c.add_until_over.new.usages.items c.args.group c.args.pages c.self.invariant.charges there c.self.invariant.usages_are
    c.add_until_over.ensures.size added)

pub returns-clause-usage : goal.returns-clause-usage
returns-clause-usage c =
    subst (λ l. UsageRises c.args.self.now l c.args.group c.args.pages) (sym (returns-clause-charged c))
    (charge_rises c.args.self.now c.args.group c.args.pages (subst AreCharges c.self.view_is c.self.invariant.charges) c.requires.there)

pub returns-clause-pages : goal.returns-clause-pages
returns-clause-pages c =
    subst (λ l. PagesRise c.args.self.now l c.args.group c.args.pages) (sym (returns-clause-charged c))
    (charge_pages c.args.self.now c.args.group c.args.pages (subst AreCharges c.self.view_is c.self.invariant.charges) c.requires.there)

pub returns-clause-peaks : goal.returns-clause-peaks
returns-clause-peaks c =
    subst (λ l. PeaksRise c.args.self.now l c.args.group) (sym (returns-clause-charged c))
    (charge_peaks c.args.self.now c.args.group c.args.pages (subst AreCharges c.self.view_is c.self.invariant.charges))

pub returns-clause-events : goal.returns-clause-events
returns-clause-events c = subst (SameEvents c.args.self.now) (sym (returns-clause-charged c)) (charge_events c.args.self.now c.args.group c.args.pages)

pub returns-in-Some-clause-over : goal.returns-in-Some-clause-over
returns-in-Some-clause-over c = search rules
