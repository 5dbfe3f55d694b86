-- What the readers of a ledger return after a change. Serves the clauses pages, peaks, events and counts of
-- `Charges`.
use Rattle.std.proofs.Common.{◌≡◌, ℕ, ◌+◌, ◌-◌, ◌<◌, ◌≤◌, Bool, true, false, not, cond, max, ◌==◌, IsTrue, Option, Some, None, is_some, List, [], ◌∷◌}
use Rattle.std.proofs.Common.{length, map, filter, get_or, refl, sym, ap, ◌∙◌, subst, arith, ⊎_elim}
use Rattle.std.specs.List.{find}
use Rattle.std.specs.Option.{option_map, option_map_or, option_or}
use Rattle.std.proofs.lemmas.Bool.{cond-true, cond-false, cases_Bool, cases_eq, ne_eqb, eqb-true, both_ways, false_from_ne_true, false≢true, not_from_false}
use Rattle.std.proofs.lemmas.List.Folds.{find-append}
use Rattle.std.proofs.lemmas.List.Sums.{sum_by_more_le_part}
use Rattle.std.proofs.lemmas.List.Elements.{Contains-get_or}
use Rattle.group_tree.specs.declared.event.EventKey.{EventKey}
use Rattle.group_tree.specs.{no_events, with_one_more, in_subtree, at_group, on_path, peak_after}
use Rattle.group_tree.specs.Groups.{has_group, without_group}
use Rattle.group_tree.proofs.GroupLemmas.{find-filter, find-map, found_in, found_passes, is_some-find}
use Rattle.group_tree.proofs.CallerLemmas.{has_group-without_own, in_subtree-above, in_subtree-refl}
use Rattle.group_charge.specs.Charges.{Account, Ledger, AreCharges, CountsEvent, PagesRise, PeaksRise, SameEvents, SamePages, SamePeaks, account_at}
use Rattle.group_charge.specs.Charges.{pages_of, peak_of, events_of, events_local_of, current_of, usage_charged, added, taken, peaked, with_event_at, charged}
use Rattle.group_charge.specs.Charges.{empty_account, with_charge, with_uncharge, with_noted, with_new_group}
use Rattle.group_charge.specs.Charges.{with_group_limit, with_group_removed, with_oom_flag}
use Rattle.group_charge.proofs.SumLemmas.{share, added-group, taken-group}
use Rattle.group_charge.proofs.UsageLemmas.{usage-absent, usage-peaked, usage-removed_other}
use Rattle.group_charge.proofs.ChargeLemmas.{account_at-there, has_account}

-- ---- a change of each account
-- the account of m is changed, if there is one
account_mapped : (l : Ledger) (f : Account → Account) (m : ℕ) → ((a : Account) → (f a).group ≡ a.group) →
    account_at (record l { accounts = map f l.accounts }) m ≡ option_map f (account_at l m)
unfolding account_at
account_mapped l f m same = find-map (λ (a : Account). a.group == m) f (λ a. ap (λ n. n == m) (same a)) l.accounts

-- it is that of m
account_is : (l : Ledger) (m : ℕ) (a : Account) → account_at l m ≡ Some a → a.group ≡ m
unfolding account_at
account_is l m a e = eqb-true a.group m (found_passes (λ (x : Account). x.group == m) l.accounts a e)

-- who has no account is not there
no_account : (l : Ledger) (m : ℕ) → AreCharges l → account_at l m ≡ None → has_group l.groups m ≡ false
unfolding account_at
no_account l m facts e = sym (has_account l m facts) ∙ sym (is_some-find (λ (a : Account). a.group == m) l.accounts) ∙ ap is_some e

read_from : {X : Type 0} (r : Account → X) (d : X) (f : Account → Account) (h : X → X) (o : Option Account) →
    ((a : Account) → o ≡ Some a → r (f a) ≡ h (r a)) → (o ≡ None → d ≡ h d) → option_map_or r (option_map f o) d ≡ h (option_map_or r o d)
read_from r d f h None some none = none refl
read_from r d f h (Some a) some none = some a refl

-- what a reader returns for m after the change, in terms of the change of m's account
read_mapped : {X : Type 0} (r : Account → X) (d : X) (l : Ledger) (f : Account → Account) (h : X → X) (m : ℕ) →
    ((a : Account) → (f a).group ≡ a.group) → ((a : Account) → a.group ≡ m → r (f a) ≡ h (r a)) → (account_at l m ≡ None → d ≡ h d) →
    option_map_or r (account_at (record l { accounts = map f l.accounts }) m) d ≡ h (option_map_or r (account_at l m) d)
read_mapped r d l f h m same some none =
    ap (λ o. option_map_or r o d) (account_mapped l f m same) ∙ read_from r d f h (account_at l m) (λ a e. some a (account_is l m a e)) none

-- a group that is not there is on no path, and is not one that is there
not_on_path : (l : Ledger) (m g : ℕ) → has_group l.groups m ≡ false → in_subtree l.groups m g ≡ false
not_on_path l m g absent = false_from_ne_true (in_subtree l.groups m g) (λ t. both_ways (has_group l.groups m) absent (in_subtree-above l.groups m g t))

not_same : (l : Ledger) (m g : ℕ) → has_group l.groups m ≡ false → IsTrue (has_group l.groups g) → (m == g) ≡ false
not_same l m g absent there = ne_eqb m g (λ same. both_ways (has_group l.groups m) absent (ap (has_group l.groups) same ∙ there))

-- ---- a charge
added_pages : (g n m : ℕ) (a : Account) → a.group ≡ m → (added g n a).pages ≡ a.pages + cond (m == g) n 0
added_pages g n m a own =
    ⊎_elim
    (λ t.
    let here : (a.group == g) ≡ true = ap (λ k. k == g) own ∙ t in
    ap (λ (x : Account). x.pages) (cond-true (a.group == g) (record a { pages = a.pages + n }) a here) ∙ ap (λ k. a.pages + k) (sym (cond-true (m == g) n 0 t)))
    (λ f.
    let here : (a.group == g) ≡ false = ap (λ k. k == g) own ∙ f in
    let none : cond (m == g) n 0 ≡ 0 = cond-false (m == g) n 0 f in
    ap (λ (x : Account). x.pages) (cond-false (a.group == g) (record a { pages = a.pages + n }) a here) ∙ omega arith)
    (cases_Bool (m == g))

-- whatever is not the pages stays
module _ {X : Type 0} (r : Account → X) (keeps : (a : Account) (n : ℕ) → r (record a { pages = n }) ≡ r a) where
  added_keeps : (g n : ℕ) (a : Account) → r (added g n a) ≡ r a
  added_keeps g n a =
      ⊎_elim
      (λ t. ap r (cond-true (a.group == g) (record a { pages = a.pages + n }) a t) ∙ keeps a (a.pages + n))
      (λ f. ap r (cond-false (a.group == g) (record a { pages = a.pages + n }) a f))
      (cases_Bool (a.group == g))

  taken_keeps : (g n : ℕ) (a : Account) → r (taken g n a) ≡ r a
  taken_keeps g n a =
      ⊎_elim
      (λ t. ap r (cond-true (a.group == g) (record a { pages = a.pages - n }) a t) ∙ keeps a (a.pages - n))
      (λ f. ap r (cond-false (a.group == g) (record a { pages = a.pages - n }) a f))
      (cases_Bool (a.group == g))

-- a charge in its two steps: the pages, and then the peaks
abbrev with_pages : Ledger → ℕ → ℕ → Ledger
with_pages l g n = record l { accounts = map (added g n) l.accounts }

charge_steps : (l : Ledger) (g n : ℕ) →
    with_charge l g n ≡ record (with_pages l g n) { accounts = map (peaked l.groups (map (added g n) l.accounts) g) (map (added g n) l.accounts) }
unfolding charged
charge_steps l g n = refl

no_account_added : (l : Ledger) (g n m : ℕ) → account_at (with_pages l g n) m ≡ None → account_at l m ≡ None
no_account_added l g n m e = none_before (account_at l m) (sym (account_mapped l (added g n) m (added-group g n)) ∙ e)
  where
    none_before : (o : Option Account) → option_map (added g n) o ≡ None → o ≡ None
    none_before None h = refl
    none_before (Some a) h = absurd (false≢true (sym (ap is_some h)))

pub charge_pages : (l : Ledger) (g n : ℕ) → AreCharges l → IsTrue (has_group l.groups g) → PagesRise l (with_charge l g n) g n
unfolding pages_of
charge_pages l g n facts there = λ m.
    ap (λ k. pages_of k m) (charge_steps l g n)
    ∙ read_mapped (λ (a : Account). a.pages) 0 (with_pages l g n) (peaked l.groups (map (added g n) l.accounts) g) (λ x. x) m (λ a. refl)
    (λ a own. refl) (λ e. refl)
    ∙ read_mapped (λ (a : Account). a.pages) 0 l (added g n) (λ x. x + cond (m == g) n 0) m (added-group g n) (added_pages g n m)
    (λ e. let none : cond (m == g) n 0 ≡ 0 = cond-false (m == g) n 0 (not_same l m g (no_account l m facts e) there) in omega arith)

pub charge_peaks : (l : Ledger) (g n : ℕ) → AreCharges l → PeaksRise l (with_charge l g n) g
unfolding peak_of charged
charge_peaks l g n facts = λ m.
    let more = map (added g n) l.accounts in
    read_mapped (λ (a : Account). a.peak) 0 (with_pages l g n) (peaked l.groups more g) (peak_after l.groups (usage_charged l.groups more) g m) m (λ a. refl)
    (λ a own. ap (λ k. peak_after l.groups (usage_charged l.groups more) g k a.peak) own)
    (λ e. sym (cond-false (in_subtree l.groups m g) _ 0 (not_on_path l m g (no_account l m facts (no_account_added l g n m e)))))
    ∙ ap (peak_after l.groups (usage_charged l.groups more) g m)
    (read_mapped (λ (a : Account). a.peak) 0 l (added g n) (λ x. x) m (added-group g n)
    (λ a own. added_keeps (λ (x : Account). x.peak) (λ a n. refl) g n a) (λ e. refl))
    ∙ ap (λ u. cond (in_subtree l.groups m g) (max (peak_of l m) u) (peak_of l m)) (sym (usage-peaked l.groups more more g m))

charge_kept : {X : Type 0} (r : Account → X) (d : X) (l : Ledger) (g n m : ℕ) → ((a : Account) (n : ℕ) → r (record a { pages = n }) ≡ r a) →
    ((a : Account) (n : ℕ) → r (record a { peak = n }) ≡ r a) → option_map_or r (account_at (with_charge l g n) m) d ≡ option_map_or r (account_at l m) d
charge_kept r d l g n m keeps also =
    ap (λ k. option_map_or r (account_at k m) d) (charge_steps l g n)
    ∙ read_mapped r d (with_pages l g n) (peaked l.groups (map (added g n) l.accounts) g) (λ x. x) m (λ a. refl) (λ a own. also a _) (λ e. refl)
    ∙ read_mapped r d l (added g n) (λ x. x) m (added-group g n) (λ a own. added_keeps r keeps g n a) (λ e. refl)

pub charge_events : (l : Ledger) (g n : ℕ) → SameEvents l (with_charge l g n)
unfolding events_of events_local_of
charge_events l g n = record {
  events = λ m. charge_kept (λ (a : Account). a.events) no_events l g n m (λ a n. refl) (λ a n. refl);
  events_local = λ m. charge_kept (λ (a : Account). a.events_local) no_events l g n m (λ a n. refl) (λ a n. refl);
}

-- ---- pages that are taken back
taken_pages : (g n m : ℕ) (a : Account) → a.group ≡ m → (taken g n a).pages ≡ a.pages - cond (m == g) n 0
taken_pages g n m a own =
    ⊎_elim
    (λ t.
    let here : (a.group == g) ≡ true = ap (λ k. k == g) own ∙ t in
    ap (λ (x : Account). x.pages) (cond-true (a.group == g) (record a { pages = a.pages - n }) a here) ∙ ap (λ k. a.pages - k) (sym (cond-true (m == g) n 0 t)))
    (λ f.
    let here : (a.group == g) ≡ false = ap (λ k. k == g) own ∙ f in
    let none : cond (m == g) n 0 ≡ 0 = cond-false (m == g) n 0 f in
    ap (λ (x : Account). x.pages) (cond-false (a.group == g) (record a { pages = a.pages - n }) a here) ∙ omega arith)
    (cases_Bool (m == g))

pub uncharge_pages : (l : Ledger) (g n : ℕ) → n ≤ pages_of l g → PagesRise (with_uncharge l g n) l g n
unfolding pages_of
uncharge_pages l g n enough = λ m.
    let less : pages_of (with_uncharge l g n) m ≡ pages_of l m - cond (m == g) n 0 =
    read_mapped (λ (a : Account). a.pages) 0 l (taken g n) (λ x. x - cond (m == g) n 0) m (taken-group g n) (taken_pages g n m) (λ e. sym (omega arith)) in
    ⊎_elim
    (λ t.
    let part : cond (m == g) n 0 ≡ n = cond-true (m == g) n 0 t in
    let own : n ≤ pages_of l m = subst (λ k. n ≤ pages_of l k) (sym (eqb-true m g t)) enough in
    omega arith)
    (λ f. let part : cond (m == g) n 0 ≡ 0 = cond-false (m == g) n 0 f in omega arith)
    (cases_Bool (m == g))

pub uncharge_peaks : (l : Ledger) (g n : ℕ) → SamePeaks l (with_uncharge l g n)
unfolding peak_of
uncharge_peaks l g n = λ m.
    read_mapped (λ (a : Account). a.peak) 0 l (taken g n) (λ x. x) m (taken-group g n)
    (λ a own. taken_keeps (λ (x : Account). x.peak) (λ a n. refl) g n a) (λ e. refl)

pub uncharge_events : (l : Ledger) (g n : ℕ) → SameEvents l (with_uncharge l g n)
unfolding events_of events_local_of
uncharge_events l g n = record {
  events = λ m. read_mapped (λ (a : Account). a.events) no_events l (taken g n) (λ x. x) m (taken-group g n)
      (λ a own. taken_keeps (λ (x : Account). x.events) (λ a n. refl) g n a) (λ e. refl);
  events_local = λ m. read_mapped (λ (a : Account). a.events_local) no_events l (taken g n) (λ x. x) m (taken-group g n)
      (λ a own. taken_keeps (λ (x : Account). x.events_local) (λ a n. refl) g n a) (λ e. refl);
}

-- ---- a note
pub note_counts : (key : EventKey) (l : Ledger) (g : ℕ) → AreCharges l → IsTrue (has_group l.groups g) → CountsEvent key l (with_noted key l g) g
unfolding events_of events_local_of
note_counts key l g facts there = record {
  events = λ m. read_mapped (λ (a : Account). a.events) no_events l (with_event_at key l.groups g) (on_path l.groups g (with_one_more key) m) m (λ a. refl)
      (λ a own. ap (λ k. on_path l.groups g (with_one_more key) k a.events) own)
      (λ e. sym (cond-false (in_subtree l.groups m g) (with_one_more key no_events) no_events (not_on_path l m g (no_account l m facts e))));
  events_local = λ m. read_mapped (λ (a : Account). a.events_local) no_events l (with_event_at key l.groups g) (at_group g (with_one_more key) m) m (λ a. refl)
      (λ a own. ap (λ k. at_group g (with_one_more key) k a.events_local) own)
      (λ e. sym (cond-false (m == g) (with_one_more key no_events) no_events (not_same l m g (no_account l m facts e) there)));
}

pub note_pages : (key : EventKey) (l : Ledger) (g : ℕ) → SamePages l (with_noted key l g)
unfolding pages_of
note_pages key l g = λ m. read_mapped (λ (a : Account). a.pages) 0 l (with_event_at key l.groups g) (λ x. x) m (λ a. refl) (λ a own. refl) (λ e. refl)

pub note_peaks : (key : EventKey) (l : Ledger) (g : ℕ) → SamePeaks l (with_noted key l g)
unfolding peak_of
note_peaks key l g = λ m. read_mapped (λ (a : Account). a.peak) 0 l (with_event_at key l.groups g) (λ x. x) m (λ a. refl) (λ a own. refl) (λ e. refl)

-- ---- another tree
pub limit_pages : (l : Ledger) (g : ℕ) (limit : Option ℕ) → SamePages l (with_group_limit l g limit)
unfolding pages_of account_at
limit_pages l g limit = λ m. refl

pub flag_pages : (l : Ledger) (g : ℕ) (flag : Bool) → SamePages l (with_oom_flag l g flag)
unfolding pages_of account_at
flag_pages l g flag = λ m. refl

new_from : (n m : ℕ) (o : Option Account) →
    option_map_or (λ (a : Account). a.pages) (option_or o (cond (n == m) (Some (empty_account n)) None)) 0 ≡ option_map_or (λ (a : Account). a.pages) o 0
new_from n m (Some a) = refl
new_from n m None =
    ⊎_elim
    (λ t. ap (λ o. option_map_or (λ (a : Account). a.pages) o 0) (cond-true (n == m) (Some (empty_account n)) None t))
    (λ f. ap (λ o. option_map_or (λ (a : Account). a.pages) o 0) (cond-false (n == m) (Some (empty_account n)) None f))
    (cases_Bool (n == m))

pub new_pages : (l : Ledger) (n : ℕ) (path : List ℕ) → SamePages l (with_new_group l n path)
unfolding pages_of account_at
new_pages l n path = λ m.
    ap (λ o. option_map_or (λ (a : Account). a.pages) o 0) (find-append (λ (a : Account). a.group == m) l.accounts (empty_account n ∷ []))
    ∙ new_from n m (find (λ (a : Account). a.group == m) l.accounts)

-- a group's own pages are part of its usage
pages_from : (l : Ledger) (g : ℕ) (o : Option Account) → IsTrue (has_group l.groups g) → account_at l g ≡ o →
    option_map_or (λ (a : Account). a.pages) o 0 ≤ current_of l g
unfolding account_at usage_charged
pages_from l g None there e = omega arith
pages_from l g (Some a) there e =
    let h = found_in (λ (x : Account). x.group == g) l.accounts a e in
    let own : a.group ≡ g = eqb-true a.group g (found_passes (λ (x : Account). x.group == g) l.accounts a e) in
    let whole : share l.groups g a ≡ a.pages =
    cond-true (in_subtree l.groups g a.group) a.pages 0 (ap (in_subtree l.groups g) own ∙ in_subtree-refl l.groups g there) in
    let part = sum_by_more_le_part (share l.groups g) (share l.groups g) l.accounts h.0 a h.1 (λ x. omega arith) in
    let read : share l.groups g (get_or l.accounts h.0 a) ≡ share l.groups g a = ap (share l.groups g) h.2 in
    omega (arith, part, read, whole)

pub pages-le-current : (l : Ledger) (g : ℕ) → IsTrue (has_group l.groups g) → pages_of l g ≤ current_of l g
unfolding pages_of
pages-le-current l g there = pages_from l g (account_at l g) there refl

-- who was filtered out is not found
not_found : (g : ℕ) (xs : List Account) → find (λ (a : Account). a.group == g) (filter (λ a. not (a.group == g)) xs) ≡ None
not_found g [] = refl
not_found g (x ∷ xs) =
    ⊎_elim
    (λ t. subst (λ b. find (λ (a : Account). a.group == g)
    (cond (not b) (x ∷ filter (λ a. not (a.group == g)) xs) (filter (λ a. not (a.group == g)) xs)) ≡ None) (sym t) (not_found g xs))
    (λ f. subst (λ b. find (λ (a : Account). a.group == g)
    (cond (not b) (x ∷ filter (λ a. not (a.group == g)) xs) (filter (λ a. not (a.group == g)) xs)) ≡ None) (sym f)
    (cond-false (x.group == g) (Some x) (find (λ (a : Account). a.group == g) (filter (λ a. not (a.group == g)) xs)) f ∙ not_found g xs))
    (cases_Bool (x.group == g))

pub removed_pages : (l : Ledger) (g : ℕ) → IsTrue (has_group l.groups g) → current_of l g ≡ 0 → SamePages l (with_group_removed l g)
unfolding pages_of account_at
removed_pages l g there empty = λ m.
    ⊎_elim
    (λ same.
    let none : pages_of l g ≡ 0 = let part = pages-le-current l g there in omega arith in
    ap (pages_of (with_group_removed l g)) same
    ∙ ap (λ o. option_map_or (λ (a : Account). a.pages) o 0) (not_found g l.accounts)
    ∙ sym (ap (pages_of l) same ∙ none))
    (λ other.
    ap (λ o. option_map_or (λ (a : Account). a.pages) o 0)
    (find-filter (λ (a : Account). a.group == m) (λ a. not (a.group == g)) l.accounts
    (λ k d lt t. not_from_false ((get_or l.accounts k d).group == g)
    (ne_eqb (get_or l.accounts k d).group g (λ e. other (sym (eqb-true (get_or l.accounts k d).group m t) ∙ e))))))
    (cases_eq m g)

-- the pages of a group are those of its account
own_pages : (l : Ledger) (g k : ℕ) (d : Account) → AreCharges l → k < length l.accounts → (get_or l.accounts k d).group ≡ g →
    pages_of l g ≡ (get_or l.accounts k d).pages
unfolding pages_of
own_pages l g k d facts lt same =
    let a = get_or l.accounts k d in
    ap (λ o. option_map_or (λ (x : Account). x.pages) o 0) (ap (account_at l) (sym same) ∙ account_at-there l a facts (Contains-get_or l.accounts k d lt))

-- a group that goes with nothing charged changes no usage, and its number has none then
pub removed_usage : (l : Ledger) (g m : ℕ) → AreCharges l → IsTrue (has_group l.groups g) → current_of l g ≡ 0 →
    current_of (with_group_removed l g) m ≡ current_of l m
removed_usage l g m facts there empty =
    ⊎_elim
    (λ same.
    ap (current_of (with_group_removed l g)) same
    ∙ usage-absent (without_group l.groups g) (filter (λ (a : Account). not (a.group == g)) l.accounts) g (has_group-without_own l.groups g)
    ∙ sym (ap (current_of l) same ∙ empty))
    (λ other.
    let none : pages_of l g ≡ 0 = let part = pages-le-current l g there in omega arith in
    usage-removed_other l.groups l.accounts g m other (λ k d lt same. sym (own_pages l g k d facts lt same) ∙ none))
    (cases_eq m g)
