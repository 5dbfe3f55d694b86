use Rattle.std.proofs.Common.{◌≡◌, ◌<◌, ◌≤◌, ◌-◌, IsTrue, length, set, sym, ap, ◌∙◌, subst, arith}
use Rattle.std.proofs.lemmas.List.{length-set}
use Rattle.group_tree.specs.Groups.{has_group}
use Rattle.group_charge.specs.Charges.{Account, AreCharges, Ledger, PagesRise, SameEvents, SamePeaks, UsageRises, empty_account, pages_of, with_uncharge}
use Rattle.group_charge.specs.Kept.{account_by, ledger_of}
use Rattle.group_charge.proofs.ChargeLemmas.{AreCharges-taken, same_ledger, uncharge_falls}
use Rattle.group_charge.proofs.KeptLemmas.{kept_pages, kept_taken, number_in_room, read_at}
use Rattle.group_charge.proofs.ReaderLemmas.{uncharge_events, uncharge_pages, uncharge_peaks}
use Rattle.group_charge.proofs.StoredLemmas.{enough_stored, kept_as, stored_taken}
use Rattle.group_charge.proofs.charges.Charges.uncharge.Goals as goal

pub index_mut-requires : goal.index_mut-requires
index_mut-requires c =
    let groups = c.self.inside.tree in
    let there : IsTrue (has_group groups c.args.group) = subst (λ (l : Ledger). IsTrue (has_group l.groups c.args.group)) (sym c.self.view_is) c.requires.there in
    let below = number_in_room groups c.args.group c.self.invariant.charges.groups there in
    omega (arith, below, c.self.invariant.size, c.number.ensures.value, c.self.inside.accounts.ok.0)

pub overflow_sub-index_mut : goal.overflow_sub-index_mut
overflow_sub-index_mut c =
    let groups = c.self.inside.tree in
    let kept = c.self.inside.accounts.items in
    let there : IsTrue (has_group groups c.args.group) = subst (λ (l : Ledger). IsTrue (has_group l.groups c.args.group)) (sym c.self.view_is) c.requires.there in
    let charged : c.args.pages ≤ pages_of (ledger_of groups kept c.self.inside.settings) c.args.group =
    subst (λ (l : Ledger). c.args.pages ≤ pages_of l c.args.group) (sym c.self.view_is) c.requires.charged in
    let below = number_in_room groups c.args.group c.self.invariant.charges.groups there in
    let within : c.number.result < length kept = omega (arith, below, c.self.invariant.size, c.number.ensures.value) in
    let own = kept_pages groups kept c.self.inside.settings c.args.group c.self.invariant.charges there in
    let read : c.index_mut.result.now ≡ account_by kept c.args.group = c.index_mut.ensures.value
    ∙ read_at kept c.number.result c.args.group c.index_mut.result.now (empty_account 0) within c.number.ensures.value in
    omega (arith, own, ap (λ (a : Account). a.pages) read, charged)

pub subtract_until-requires-clause-enough : goal.subtract_until-requires-clause-enough
subtract_until-requires-clause-enough c = λ m passed.
    let l = ledger_of c.self.inside.tree c.self.inside.accounts.items c.self.inside.settings in
    let there : IsTrue (has_group l.groups c.args.group) = subst (λ (k : Ledger). IsTrue (has_group k.groups c.args.group)) (sym c.self.view_is) c.requires.there in
    let charged : c.args.pages ≤ pages_of l c.args.group = subst (λ k. c.args.pages ≤ pages_of k c.args.group) (sym c.self.view_is) c.requires.charged in
    enough_stored l c.self.inside.usages.items c.args.group c.args.pages m c.self.invariant.charges there charged c.self.invariant.usages_are passed

pub returns-clause-uncharged : goal.returns-clause-uncharged
returns-clause-uncharged c =
    let groups = c.self.inside.tree in
    let kept = c.self.inside.accounts.items in
    let there : IsTrue (has_group groups c.args.group) = subst (λ (l : Ledger). IsTrue (has_group l.groups c.args.group)) (sym c.self.view_is) c.requires.there in
    let also : c.args.group < length kept = omega (arith, number_in_room groups c.args.group c.self.invariant.charges.groups there, c.self.invariant.size) in
    let within : c.number.result < length kept = omega (arith, also, c.number.ensures.value) in
    let was = c.index_mut.result.now in
    let read : was ≡ account_by kept c.args.group = c.index_mut.ensures.value
    ∙ read_at kept c.number.result c.args.group was (empty_account 0) within c.number.ensures.value in
    ap (λ (a : Account). ledger_of groups (set kept c.number.result (record a { pages = a.pages - c.args.pages })) c.self.inside.settings) read
    ∙ ap (λ k. ledger_of groups (set kept k (record (account_by kept c.args.group) { pages = (account_by kept c.args.group).pages - c.args.pages })) c.self.inside.settings)
    c.number.ensures.value
    ∙ same_ledger _ _ _ _ (kept_taken groups kept c.args.group c.args.pages c.self.invariant.charges.numbers also)
    ∙ ap (λ l. with_uncharge l c.args.group c.args.pages) c.self.view_is

pub invariant_of-self : goal.invariant_of-self
invariant_of-self c =
    let l = ledger_of c.self.inside.tree c.self.inside.accounts.items c.self.inside.settings in
    let there : IsTrue (has_group l.groups c.args.group) = subst (λ (k : Ledger). IsTrue (has_group k.groups c.args.group)) (sym c.self.view_is) c.requires.there in
    let charged : c.args.pages ≤ pages_of l c.args.group = subst (λ k. c.args.pages ≤ pages_of k c.args.group) (sym c.self.view_is) c.requires.charged in
    kept_as _ _ _ _ (with_uncharge l c.args.group c.args.pages) (returns-clause-uncharged c ∙ ap (λ k. with_uncharge k c.args.group c.args.pages) (sym c.self.view_is))
    (AreCharges-taken l c.args.group c.args.pages c.self.invariant.charges) (length-set c.self.inside.accounts.items c.number.result _ ∙ c.self.invariant.size)
    (stored_taken l c.self.inside.usages.items c.subtract_until.new.usages.items c.args.group c.args.pages c.self.invariant.charges there charged c.self.invariant.usages_are
    c.subtract_until.ensures.size c.subtract_until.ensures.taken)

pub returns-clause-usage : goal.returns-clause-usage
returns-clause-usage c =
    subst (λ l. UsageRises l c.args.self.now c.args.group c.args.pages) (sym (returns-clause-uncharged c))
    (uncharge_falls c.args.self.now c.args.group c.args.pages (subst AreCharges c.self.view_is c.self.invariant.charges) c.requires.there c.requires.charged)

pub returns-clause-pages : goal.returns-clause-pages
returns-clause-pages c =
    subst (λ l. PagesRise l c.args.self.now c.args.group c.args.pages) (sym (returns-clause-uncharged c))
    (uncharge_pages c.args.self.now c.args.group c.args.pages c.requires.charged)

pub returns-clause-peaks : goal.returns-clause-peaks
returns-clause-peaks c = subst (SamePeaks c.args.self.now) (sym (returns-clause-uncharged c)) (uncharge_peaks c.args.self.now c.args.group c.args.pages)

pub returns-clause-events : goal.returns-clause-events
returns-clause-events c = subst (SameEvents c.args.self.now) (sym (returns-clause-uncharged c)) (uncharge_events c.args.self.now c.args.group c.args.pages)
