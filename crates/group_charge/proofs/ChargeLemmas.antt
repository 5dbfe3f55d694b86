-- What holds of the charges of a tree, and how a change keeps it. Serves the invariant of `Charges` and the clauses that
-- name the whole ledger.
use Rattle.std.proofs.Common.{◌≡◌, ◌≢◌, ℕ, ◌||◌, ◌+◌, ◌^◌, ◌<◌, ◌≤◌, Bool, false, not, cond, ◌==◌, IsTrue, All, Contains, Option, Some, None, List}
use Rattle.std.proofs.Common.{[], ◌∷◌, ◌++◌, length, map, filter, get_or, refl, sym, ap, ◌∙◌, subst, arith, lit<, ⊎_elim}
use Rattle.std.specs.List.{find, list_any}
use Rattle.std.specs.Option.{option_map_or}
use Rattle.std.proofs.lemmas.Bool.{eq-eqb, ne_eqb, cond-true, cond_both, cases_Bool}
use Rattle.std.proofs.lemmas.List.{get_or-map, length-map, map-append}
use Rattle.group_charge.proofs.UsageLemmas.{PeaksCover, cover_as, cover_charged, cover_new, cover_noted, cover_removed, cover_taken, part-is}
use Rattle.group_charge.proofs.UsageLemmas.{sum-same, usage-charged, usage-taken}
use Rattle.std.proofs.lemmas.List.Elements.{All-cons, All-nil, Contains-get_or}
use Rattle.std.proofs.lemmas.List.Recursion.{found_at}
use Rattle.std.proofs.lemmas.List.Sums.{sum_by-cons, sum_by_push}
use Rattle.group_tree.specs.declared.group.Group.{Group}
use Rattle.group_tree.specs.declared.event.EventKey.{EventKey}
use Rattle.group_tree.specs.Bounds.{most_groups}
use Rattle.group_tree.specs.Groups.{the_root, initial_groups, new_row, IsLeastFreeNumber, has_group, in_subtree, has_child, without_group, with_limit, with_oom_group, limited, flagged, AreGroups}
use Rattle.group_tree.proofs.GroupLemmas.{CanMake, has_group-any, has_group-contains, length-full, AreGroups-initial, AreGroups-with}
use Rattle.group_tree.proofs.GroupLemmas.{AreGroups-without, AreGroups-limited, AreGroups-flagged, limited-number, flagged-number}
use Rattle.group_tree.proofs.CallerLemmas.{in_subtree-flagged, in_subtree-limited, in_subtree-root}
use Rattle.group_charge.specs.Charges.{Account, Ledger, ReclaimSettings, AreCharges, UsageRises, account_at, pages_of, current_of, usage_charged, total_pages, added, taken}
use Rattle.group_charge.specs.Charges.{peaked, with_event_at, charged, empty_account, initial_ledger, with_charge, with_uncharge, with_new_group}
use Rattle.group_charge.specs.Charges.{with_group_removed, with_group_limit, with_noted, with_oom_flag}
use Rattle.group_charge.proofs.SumLemmas.{AreDistinct, share, total-added, total-taken, usage-le-total, added-group, taken-group, peaked-group}
use Rattle.group_charge.proofs.SumLemmas.{peaked-pages, sum-map_same}

-- ---- each group has one account
list_any-over : {X Y : Type 0} (p : Y → Bool) (f : X → Y) (xs : List X) → list_any p (map f xs) ≡ list_any (λ x. p (f x)) xs
list_any-over p f [] = refl
list_any-over p f (x ∷ xs) = ap (λ b. p (f x) || b) (list_any-over p f xs)

-- a group has an account exactly if it exists
pub has_account : (l : Ledger) (g : ℕ) → AreCharges l → list_any (λ a. a.group == g) l.accounts ≡ has_group l.groups g
has_account l g facts =
    sym (list_any-over (λ n. n == g) (λ (a : Account). a.group) l.accounts) ∙ ap (list_any (λ n. n == g)) facts.numbers
    ∙ list_any-over (λ n. n == g) (λ (x : Group). x.number) l.groups ∙ sym (has_group-any l.groups g)

-- there are as many accounts as groups
pub as_many : (l : Ledger) → AreCharges l → length l.accounts ≡ length l.groups
as_many l facts = sym (length-map l.accounts (λ (a : Account). a.group)) ∙ ap length facts.numbers ∙ length-map l.groups (λ (x : Group). x.number)

-- the k-th account is the k-th group's
account_number : (l : Ledger) (k : ℕ) (d : Account) → AreCharges l → k < length l.accounts → (get_or l.accounts k d).group ≡ (get_or l.groups k (the_root 0)).number
account_number l k d facts lt =
    let also : k < length l.groups = omega (arith, as_many l facts) in
    sym (get_or-map (λ (a : Account). a.group) l.accounts k d 0 lt) ∙ ap (λ ns. get_or ns k 0) facts.numbers
    ∙ get_or-map (λ (x : Group). x.number) l.groups k (the_root 0) 0 also

-- each account's group is there
pub all_known : (l : Ledger) → AreCharges l → All (λ a. IsTrue (has_group l.groups a.group)) l.accounts
all_known l facts = λ k d lt.
    let also : k < length l.groups = omega (arith, as_many l facts) in
    subst (λ n. IsTrue (has_group l.groups n)) (sym (account_number l k d facts lt))
    (has_group-contains l.groups (get_or l.groups k (the_root 0)) (Contains-get_or l.groups k (the_root 0) also))

-- no group has two accounts
pub all_distinct : (l : Ledger) → AreCharges l → AreDistinct l.accounts
all_distinct l facts = λ i j d below lt same.
    let first = account_number l i d facts (omega arith) in
    let second = account_number l j d facts lt in
    facts.groups.numbers_distinct i j (the_root 0) below (omega (arith, as_many l facts)) (sym first ∙ same ∙ second)

-- an account of the list is found by its number
pub account_at-there : (l : Ledger) (a : Account) → AreCharges l → Contains l.accounts a → account_at l a.group ≡ Some a
unfolding account_at
account_at-there l a facts h =
    let test : Account → Bool = λ x. x.group == a.group in
    let at : find test l.accounts ≡ Some (get_or l.accounts h.0 a) =
    found_at (find test) test Some None refl (λ _ _. refl) l.accounts h.0 a h.1
    (λ j below. ne_eqb (get_or l.accounts j a).group a.group (λ same. all_distinct l facts j h.0 a below h.1 (same ∙ ap (λ (x : Account). x.group) (sym h.2))))
    (eq-eqb (get_or l.accounts h.0 a).group a.group (ap (λ (x : Account). x.group) h.2)) in
    at ∙ ap Some h.2

-- the group's own pages are those of its account
pub pages-there : (l : Ledger) (g n : ℕ) → AreCharges l → n ≤ pages_of l g → All (λ a. a.group ≡ g → n ≤ a.pages) l.accounts
unfolding pages_of
pages-there l g n facts h = λ k d lt same.
    let a = get_or l.accounts k d in
    let at : account_at l g ≡ Some a = ap (account_at l) (sym same) ∙ account_at-there l a facts (Contains-get_or l.accounts k d lt) in
    let own : option_map_or (λ (x : Account). x.pages) (account_at l g) 0 ≡ a.pages = ap (λ o. option_map_or (λ (x : Account). x.pages) o 0) at in
    omega (arith, own, h)

-- ---- the root's usage is all that is charged
pub root_usage : (l : Ledger) → AreCharges l → current_of l 0 ≡ total_pages l.accounts
unfolding usage_charged
root_usage l facts =
    sum-same (share l.groups 0) (λ a. a.pages) l.accounts
    (λ k d lt. let a = get_or l.accounts k d in
    cond-true (in_subtree l.groups 0 a.group) a.pages 0 (in_subtree-root l.groups a.group facts.groups (all_known l facts k d lt)))

-- no usage is above the root's
pub usage-le-root : (l : Ledger) (g : ℕ) → AreCharges l → current_of l g ≤ current_of l 0
usage-le-root l g facts = omega (arith, usage-le-total l.groups l.accounts g, root_usage l facts)

-- ---- a change keeps the facts
pub same_ledger : (g : List Group) (a b : List Account) (s : List ReclaimSettings) → a ≡ b →
    ◌≡◌ {A = Ledger} (record { groups = g; accounts = a; settings = s }) (record { groups = g; accounts = b; settings = s })
same_ledger g a b s e = ap (λ (xs : List Account). record { groups = g; accounts = xs; settings = s }) e

-- a change that keeps each account's group keeps the list of groups
pub same_groups : (f : Account → Account) → ((a : Account) → (f a).group ≡ a.group) → (xs : List Account) →
    map (λ (a : Account). a.group) (map f xs) ≡ map (λ (a : Account). a.group) xs
same_groups f same [] = refl
same_groups f same (x ∷ xs) = ap (λ n. n ∷ map (λ (a : Account). a.group) (map f xs)) (same x) ∙ ap (λ ns. x.group ∷ ns) (same_groups f same xs)

-- a change of the rows that keeps their numbers
numbers-kept : (f : Group → Group) → ((x : Group) → (f x).number ≡ x.number) → (xs : List Group) →
    map (λ (x : Group). x.number) (map f xs) ≡ map (λ (x : Group). x.number) xs
numbers-kept f keeps [] = refl
numbers-kept f keeps (x ∷ xs) =
    ap (λ k. k ∷ map (λ (y : Group). y.number) (map f xs)) (keeps x) ∙ ap (λ ns. x.number ∷ ns) (numbers-kept f keeps xs)

-- mapping after filtering is filtering after mapping
map-filter : {X Y : Type 0} (f : X → Y) (p : Y → Bool) (xs : List X) → map f (filter (λ x. p (f x)) xs) ≡ filter p (map f xs)
map-filter f p [] = refl
map-filter f p (x ∷ xs) =
    ⊎_elim
    (λ t. subst (λ b. map f (cond b (x ∷ filter (λ y. p (f y)) xs) (filter (λ y. p (f y)) xs)) ≡ cond b (f x ∷ filter p (map f xs))
    (filter p (map f xs))) (sym t) (ap (λ ys. f x ∷ ys) (map-filter f p xs)))
    (λ n. subst (λ b. map f (cond b (x ∷ filter (λ y. p (f y)) xs) (filter (λ y. p (f y)) xs)) ≡ cond b (f x ∷ filter p (map f xs))
    (filter p (map f xs))) (sym n) (map-filter f p xs))
    (cases_Bool (p (f x)))

-- fewer accounts have no more pages
total-filter : (p : Account → Bool) (xs : List Account) → total_pages (filter p xs) ≤ total_pages xs
total-filter p [] = omega arith
total-filter p (x ∷ xs) =
    let rest = total-filter p xs in
    let whole = sum_by-cons (λ (a : Account). a.pages) x xs in
    cond_both (p x) (x ∷ filter p xs) (filter p xs) (λ ys. total_pages ys ≤ total_pages (x ∷ xs))
    (λ _. omega (arith, sum_by-cons (λ (a : Account). a.pages) x (filter p xs)))
    (λ _. omega arith)

-- peaks cover usage at first
initial_peaks : (below : ℕ) → PeaksCover (initial_groups below) (empty_account 0 ∷ [])
initial_peaks below =
    All-cons (λ (a : Account). usage_charged (initial_groups below) (empty_account 0 ∷ []) a.group ≤ a.peak) (empty_account 0) []
    (usage-le-total (initial_groups below) (empty_account 0 ∷ []) 0)
    (All-nil (λ (a : Account). usage_charged (initial_groups below) (empty_account 0 ∷ []) a.group ≤ a.peak))

-- the facts hold at first
pub AreCharges-initial : (below : ℕ) → below < most_groups → AreCharges (initial_ledger below)
AreCharges-initial below few = record { groups = AreGroups-initial below few; numbers = refl; fits = lit< tt; peaks = initial_peaks below }

-- and over other rows with the same numbers, each of which lies in the same subtrees
AreCharges-as : (l : Ledger) (groups : List Group) → AreGroups groups → map (λ (x : Group). x.number) groups ≡ map (λ (x : Group). x.number) l.groups →
    ((g h : ℕ) → in_subtree groups g h ≡ in_subtree l.groups g h) → AreCharges l → AreCharges (record l { groups = groups })
AreCharges-as l groups are numbers same facts = record {
  groups = are;
  numbers = facts.numbers ∙ sym numbers;
  fits = facts.fits;
  peaks = cover_as groups l.groups l.accounts same facts.peaks;
}

-- and after another limit
pub AreCharges-limited : (l : Ledger) (g : ℕ) (limit : Option ℕ) → AreCharges l → AreCharges (with_group_limit l g limit)
unfolding with_limit
AreCharges-limited l g limit facts =
    AreCharges-as l (with_limit l.groups g limit) (AreGroups-limited l.groups g limit facts.groups)
    (numbers-kept (limited g limit) (limited-number g limit) l.groups) (λ k h. in_subtree-limited l.groups g k h limit) facts

-- and after a flag
pub AreCharges-flagged : (l : Ledger) (g : ℕ) (flag : Bool) → AreCharges l → g ≢ 0 → AreCharges (with_oom_flag l g flag)
unfolding with_oom_group
AreCharges-flagged l g flag facts below =
    AreCharges-as l (with_oom_group l.groups g flag) (AreGroups-flagged l.groups g flag facts.groups below)
    (numbers-kept (flagged g flag) (flagged-number g flag) l.groups) (λ k h. in_subtree-flagged l.groups g k h flag) facts

-- and after a note
pub AreCharges-noted : (key : EventKey) (l : Ledger) (g : ℕ) → AreCharges l → AreCharges (with_noted key l g)
AreCharges-noted key l g facts = record {
  groups = facts.groups;
  numbers = same_groups (with_event_at key l.groups g) (λ a. refl) l.accounts ∙ facts.numbers;
  fits = omega (arith, sum-map_same (λ (a : Account). a.pages) (with_event_at key l.groups g) (λ a. refl) l.accounts, facts.fits);
  peaks = cover_noted key l.groups l.accounts g facts.peaks;
}

-- and after pages were taken
pub AreCharges-taken : (l : Ledger) (g n : ℕ) → AreCharges l → AreCharges (with_uncharge l g n)
AreCharges-taken l g n facts = record {
  groups = facts.groups;
  numbers = same_groups (taken g n) (taken-group g n) l.accounts ∙ facts.numbers;
  fits = omega (arith, total-taken g n l.accounts, facts.fits);
  peaks = cover_taken l.groups l.accounts g n facts.peaks;
}

-- and after a charge that fits 32 bits
pub AreCharges-charged : (l : Ledger) (g n : ℕ) → AreCharges l → IsTrue (has_group l.groups g) → current_of l 0 + n < 2 ^ 32 →
    AreCharges (with_charge l g n)
unfolding charged
AreCharges-charged l g n facts there fits =
    let more = map (added g n) l.accounts in
    let raised : total_pages (map (peaked l.groups more g) more) ≡ total_pages more =
    sum-map_same (λ (a : Account). a.pages) (peaked l.groups more g) (peaked-pages l.groups more g) more in
    record {
      groups = facts.groups;
      numbers = same_groups (peaked l.groups more g) (peaked-group l.groups more g) more ∙ same_groups (added g n) (added-group g n) l.accounts ∙ facts.numbers;
      fits = omega (arith, raised, total-added g n l.accounts (all_distinct l facts), root_usage l facts, fits);
      peaks = cover_charged l.groups l.accounts g n (all_distinct l facts) (has_account l g facts ∙ there) facts.peaks;
    }

-- and without a group that has no group below it
pub AreCharges-removed : (l : Ledger) (g : ℕ) → AreCharges l → has_child l.groups g ≡ false → g ≢ 0 → AreCharges (with_group_removed l g)
unfolding without_group
AreCharges-removed l g facts leaf below = record {
  groups = AreGroups-without l.groups g facts.groups leaf below;
  numbers = map-filter (λ (a : Account). a.group) (λ n. not (n == g)) l.accounts ∙ ap (filter (λ n. not (n == g))) facts.numbers
      ∙ sym (map-filter (λ (x : Group). x.number) (λ n. not (n == g)) l.groups);
  fits = omega (arith, total-filter (λ a. not (a.group == g)) l.accounts, facts.fits);
  peaks = cover_removed l.groups l.accounts g facts.peaks;
}

-- and with a new group
pub AreCharges-new : (l : Ledger) (n : ℕ) (path : List ℕ) → AreCharges l → CanMake l.groups path → IsLeastFreeNumber l.groups n →
    AreCharges (with_new_group l n path)
AreCharges-new l n path facts can least =
    let few = length-full l.groups n least.least in
    record {
      groups = AreGroups-with l.groups n path facts.groups can (omega (arith, few, can.room)) least.free;
      numbers = map-append (λ (a : Account). a.group) l.accounts (empty_account n ∷ []) ∙ ap (λ ns. ns ++ n ∷ []) facts.numbers
          ∙ sym (map-append (λ (x : Group). x.number) l.groups (new_row n path ∷ []));
      fits = omega (arith, sum_by_push (λ (a : Account). a.pages) l.accounts (empty_account n), facts.fits);
      peaks = cover_new l.groups l.accounts n path facts.groups can least.free (all_known l facts) facts.peaks;
    }

-- ---- lists of accounts

-- ---- what a charge does to usage
pub charge_rises : (l : Ledger) (g n : ℕ) → AreCharges l → IsTrue (has_group l.groups g) → UsageRises l (with_charge l g n) g n
charge_rises l g n facts there = λ m.
    usage-charged l.groups l.accounts g n m (all_distinct l facts) (has_account l g facts ∙ there) ∙ part-is l.groups m g n (current_of l m)

-- what is taken back lowers the usage of the group and of all above it
pub uncharge_falls : (l : Ledger) (g n : ℕ) → AreCharges l → IsTrue (has_group l.groups g) → n ≤ pages_of l g → UsageRises (with_uncharge l g n) l g n
uncharge_falls l g n facts there enough = λ m.
    sym (usage-taken l.groups l.accounts g n m (all_distinct l facts) (has_account l g facts ∙ there) (pages-there l g n facts enough))
    ∙ part-is l.groups m g n (usage_charged l.groups (map (taken g n) l.accounts) m)
