-- What is kept by number, and the ledger that it stands for. Serves the invariant of `Charges` and the clauses that name the
-- whole ledger.
use Rattle.std.proofs.Common.{◌≡◌, ◌≢◌, ℕ, ◌+◌, ◌-◌, ◌<◌, Bool, false, not, cond, max, ◌==◌, IsTrue, All, Contains, Option, Some, List, [], ◌∷◌, ◌++◌}
use Rattle.std.proofs.Common.{length, map, filter, get_or, set, refl, sym, ap, ◌∙◌, subst, arith, ⊎_elim}
use Rattle.std.specs.Option.{option_map_or}
use Rattle.std.proofs.lemmas.Bool.{both_ways, cases_Bool, cases_eq, cond-true, cond-false, eq-eqb, ne_eqb}
use Rattle.std.proofs.lemmas.List.{get_or_default, get_or-map, get_or-set_other, get_or-set_same, length-map, map-append}
use Rattle.std.proofs.lemmas.List.Elements.{All-cons, All-contains, All-head, All-nil, All-tail, Contains-get_or}
use Rattle.group_tree.specs.declared.group.Group.{Group}
use Rattle.group_tree.specs.declared.event.EventKey.{EventKey}
use Rattle.group_tree.specs.{with_one_more, has_group, in_subtree, new_row, with_group, limited, flagged, on_path}
use Rattle.group_tree.specs.Groups.{with_limit, with_oom_group, without_group}
use Rattle.group_tree.proofs.GroupLemmas.{has_group-contains, has_group-is, group_at-contains, limited-number, flagged-number}
pub use Rattle.group_tree.proofs.CallerLemmas.{number_in_room}
use Rattle.group_charge.specs.Charges.{Account, AreCharges, ReclaimSettings, account_at, added, charged, empty_account, pages_of, peaked, taken, usage_charged}
use Rattle.group_charge.specs.Charges.{with_charge, with_event_at}
use Rattle.group_charge.specs.Kept.{AccountsOnPath, AreUsages, account_by, accounts_of, ledger_of, usage_by, with_event, with_local_event, with_usage_peak}
use Rattle.group_charge.proofs.ChargeLemmas.{account_at-there, same_groups}
use Rattle.group_charge.proofs.SumLemmas.{added-group}
use Rattle.group_charge.proofs.UsageLemmas.{usage-peaked}

-- ---- each account bears the number that it is kept under
-- the accounts of these groups bear their numbers
abbrev pub BearNumbers : List Group → List Account → Type 0
BearNumbers groups kept = map (λ (a : Account). a.group) (accounts_of groups kept) ≡ map (λ (x : Group). x.number) groups

own_all : (groups : List Group) (kept : List Account) → BearNumbers groups kept → All (λ (x : Group). (account_by kept x.number).group ≡ x.number) groups
own_all [] kept e = All-nil (λ (x : Group). (account_by kept x.number).group ≡ x.number)
own_all (x ∷ xs) kept e =
    let both : (account_by kept x.number).group ∷ map (λ (a : Account). a.group) (accounts_of xs kept) ≡ x.number ∷ map (λ (y : Group). y.number) xs = e in
    let first : (account_by kept x.number).group ≡ x.number = cc in
    let others : map (λ (a : Account). a.group) (accounts_of xs kept) ≡ map (λ (y : Group). y.number) xs = cc in
    All-cons (λ (y : Group). (account_by kept y.number).group ≡ y.number) x xs first (own_all xs kept others)

pub own_number : (groups : List Group) (kept : List Account) (g : ℕ) → BearNumbers groups kept → IsTrue (has_group groups g) → (account_by kept g).group ≡ g
own_number groups kept g bear there =
    let w = has_group-is groups g there in
    let c = group_at-contains groups g w.0 w.1 in
    subst (λ k. (account_by kept k).group ≡ k) c.1
    (All-contains (λ (x : Group). (account_by kept x.number).group ≡ x.number) groups w.0 (own_all groups kept bear) c.0)

-- ---- a change of what is kept, as a change of the ledger's accounts
mapped : (groups : List Group) (old new : List Account) (f : Account → Account) →
    All (λ (x : Group). account_by new x.number ≡ f (account_by old x.number)) groups → accounts_of groups new ≡ map f (accounts_of groups old)
mapped [] old new f h = refl
mapped (x ∷ xs) old new f h =
    ap (λ a. a ∷ accounts_of xs new) (All-head (λ (y : Group). account_by new y.number ≡ f (account_by old y.number)) x xs h)
    ∙ ap (λ others. f (account_by old x.number) ∷ others)
    (mapped xs old new f (All-tail (λ (y : Group). account_by new y.number ≡ f (account_by old y.number)) x xs h))

pub kept_mapped : (groups : List Group) (old new : List Account) (f : Account → Account) →
    ((k : ℕ) → IsTrue (has_group groups k) → account_by new k ≡ f (account_by old k)) → accounts_of groups new ≡ map f (accounts_of groups old)
kept_mapped groups old new f each =
    mapped groups old new f (λ i d lt. each (get_or groups i d).number (has_group-contains groups (get_or groups i d) (Contains-get_or groups i d lt)))

-- one account is changed
pub kept_at : (groups : List Group) (kept : List Account) (g : ℕ) (f : Account → Account) → BearNumbers groups kept → g < length kept →
    accounts_of groups (set kept g (f (account_by kept g))) ≡ map (λ a. cond (a.group == g) (f a) a) (accounts_of groups kept)
kept_at groups kept g f bear within =
    kept_mapped groups kept (set kept g (f (account_by kept g))) (λ a. cond (a.group == g) (f a) a)
    (λ k there.
    let own = own_number groups kept k bear there in
    ⊎_elim
    (λ same.
    let here : account_by (set kept g (f (account_by kept g))) k ≡ f (account_by kept k) =
    ap (account_by (set kept g (f (account_by kept g)))) same ∙ get_or-set_same kept g (f (account_by kept g)) (empty_account 0) within
    ∙ ap (λ j. f (account_by kept j)) (sym same) in
    here ∙ sym (cond-true ((account_by kept k).group == g) (f (account_by kept k)) (account_by kept k) (eq-eqb (account_by kept k).group g (own ∙ same))))
    (λ other.
    get_or-set_other kept g k (f (account_by kept g)) (empty_account 0) other
    ∙ sym (cond-false ((account_by kept k).group == g) (f (account_by kept k)) (account_by kept k)
    (ne_eqb (account_by kept k).group g (λ e. other (sym own ∙ e)))))
    (cases_eq k g))

-- pages come to one group, or are taken from it
pub kept_added : (groups : List Group) (kept : List Account) (g n : ℕ) → BearNumbers groups kept → g < length kept →
    accounts_of groups (set kept g (record (account_by kept g) { pages = (account_by kept g).pages + n })) ≡ map (added g n) (accounts_of groups kept)
kept_added groups kept g n bear within = kept_at groups kept g (λ a. record a { pages = a.pages + n }) bear within

pub kept_taken : (groups : List Group) (kept : List Account) (g n : ℕ) → BearNumbers groups kept → g < length kept →
    accounts_of groups (set kept g (record (account_by kept g) { pages = (account_by kept g).pages - n })) ≡ map (taken g n) (accounts_of groups kept)
kept_taken groups kept g n bear within = kept_at groups kept g (λ a. record a { pages = a.pages - n }) bear within

-- peaks follow their usage along the path
pub kept_peaked : (groups : List Group) (old new : List Account) (usages : List ℕ) (g : ℕ) → BearNumbers groups old →
    AccountsOnPath groups g (with_usage_peak usages) old new → ((k : ℕ) → usage_by usages k ≡ usage_charged groups (accounts_of groups old) k) →
    accounts_of groups new ≡ map (peaked groups (accounts_of groups old) g) (accounts_of groups old)
kept_peaked groups old new usages g bear walked sums =
    kept_mapped groups old new (peaked groups (accounts_of groups old) g)
    (λ k there.
    let a = account_by old k in
    let own = own_number groups old k bear there in
    let usage_is : usage_by usages k ≡ usage_charged groups (accounts_of groups old) a.group = sums k ∙ ap (usage_charged groups (accounts_of groups old)) (sym own) in
    let side : in_subtree groups k g ≡ in_subtree groups a.group g = ap (λ j. in_subtree groups j g) (sym own) in
    walked k ∙
    ⊎_elim
    (λ t.
    cond-true (in_subtree groups k g) (with_usage_peak usages k a) a t
    ∙ ap (λ u. record a { peak = max a.peak u }) usage_is
    ∙ ap (λ p. record a { peak = p }) (sym (cond-true (in_subtree groups a.group g)
    (max a.peak (usage_charged groups (accounts_of groups old) a.group)) a.peak (sym side ∙ t))))
    (λ f.
    cond-false (in_subtree groups k g) (with_usage_peak usages k a) a f
    ∙ ap (λ p. record a { peak = p }) (sym (cond-false (in_subtree groups a.group g)
    (max a.peak (usage_charged groups (accounts_of groups old) a.group)) a.peak (sym side ∙ f))))
    (cases_Bool (in_subtree groups k g)))

-- one more event along the path and at the group itself
abbrev events_noted : EventKey → List Group → ℕ → Account → Account
events_noted key groups g a = record a { events = on_path groups g (with_one_more key) a.group a.events }

events_walked : (key : EventKey) (groups : List Group) (g k : ℕ) (a : Account) → a.group ≡ k → on_path groups g (with_event key k) k a ≡ events_noted key groups g a
events_walked key groups g k a own =
    let side : in_subtree groups k g ≡ in_subtree groups a.group g = ap (λ j. in_subtree groups j g) (sym own) in
    ⊎_elim
    (λ t.
    cond-true (in_subtree groups k g) (with_event key k a) a t
    ∙ ap (λ e. record a { events = e }) (sym (cond-true (in_subtree groups a.group g) (with_one_more key a.events) a.events (sym side ∙ t))))
    (λ f.
    cond-false (in_subtree groups k g) (with_event key k a) a f
    ∙ ap (λ e. record a { events = e }) (sym (cond-false (in_subtree groups a.group g) (with_one_more key a.events) a.events (sym side ∙ f))))
    (cases_Bool (in_subtree groups k g))

pub kept_noted : (key : EventKey) (groups : List Group) (old new : List Account) (g : ℕ) → BearNumbers groups old → g < length new →
    AccountsOnPath groups g (with_event key) old new → accounts_of groups (with_local_event key g new) ≡ map (with_event_at key groups g) (accounts_of groups old)
kept_noted key groups old new g bear within walked =
    kept_mapped groups old (with_local_event key g new) (with_event_at key groups g)
    (λ k there.
    let own = own_number groups old k bear there in
    let a = account_by old k in
    let half : account_by new k ≡ events_noted key groups g a = walked k ∙ events_walked key groups g k a own in
    ⊎_elim
    (λ same.
    let item : Account = record (account_by new g) { events_local = with_one_more key (account_by new g).events_local } in
    ap (account_by (with_local_event key g new)) same ∙ get_or-set_same new g item (empty_account 0) within
    ∙ ap (λ j. record (account_by new j) { events_local = with_one_more key (account_by new j).events_local }) (sym same)
    ∙ ap (λ (x : Account). record x { events_local = with_one_more key x.events_local }) half
    ∙ ap (λ e. record (events_noted key groups g a) { events_local = e })
    (sym (cond-true (a.group == g) (with_one_more key a.events_local) a.events_local (eq-eqb a.group g (own ∙ same)))))
    (λ other.
    let item : Account = record (account_by new g) { events_local = with_one_more key (account_by new g).events_local } in
    get_or-set_other new g k item (empty_account 0) other ∙ half
    ∙ ap (λ e. record (events_noted key groups g a) { events_local = e })
    (sym (cond-false (a.group == g) (with_one_more key a.events_local) a.events_local (ne_eqb a.group g (λ e. other (sym own ∙ e))))))
    (cases_eq k g))

-- ---- other trees
-- one more group, whose account is empty
old_same : (groups xs : List Group) (kept : List Account) (n : ℕ) (item : Account) → All (λ (x : Group). x.number ≢ n) xs →
    accounts_of xs (set kept n item) ≡ accounts_of xs kept
old_same groups [] kept n item h = refl
old_same groups (x ∷ xs) kept n item h =
    ap (λ a. a ∷ accounts_of xs (set kept n item)) (get_or-set_other kept n x.number item (empty_account 0) (All-head (λ (y : Group). y.number ≢ n) x xs h))
    ∙ ap (λ others. account_by kept x.number ∷ others) (old_same groups xs kept n item (All-tail (λ (y : Group). y.number ≢ n) x xs h))

pub kept_new : (groups : List Group) (kept : List Account) (n : ℕ) (path : List ℕ) → has_group groups n ≡ false → n < length kept →
    accounts_of (with_group groups n path) (set kept n (empty_account n)) ≡ accounts_of groups kept ++ empty_account n ∷ []
kept_new groups kept n path free within =
    map-append (λ (x : Group). account_by (set kept n (empty_account n)) x.number) groups (new_row n path ∷ [])
    ∙ ap (λ others. others ++ account_by (set kept n (empty_account n)) n ∷ [])
    (old_same groups groups kept n (empty_account n)
    (λ i d lt same. both_ways (has_group groups n) free
    (subst (λ m. IsTrue (has_group groups m)) same (has_group-contains groups (get_or groups i d) (Contains-get_or groups i d lt)))))
    ∙ ap (λ a. accounts_of groups kept ++ a ∷ []) (get_or-set_same kept n (empty_account n) (empty_account 0) within)

-- one group less
removed : (xs : List Group) (kept : List Account) (g : ℕ) → All (λ (x : Group). (account_by kept x.number).group ≡ x.number) xs →
    accounts_of (filter (λ (x : Group). not (x.number == g)) xs) kept ≡ filter (λ (a : Account). not (a.group == g)) (accounts_of xs kept)
removed [] kept g h = refl
removed (x ∷ xs) kept g h =
    let own : (account_by kept x.number).group ≡ x.number = All-head (λ (y : Group). (account_by kept y.number).group ≡ y.number) x xs h in
    let rest = removed xs kept g (All-tail (λ (y : Group). (account_by kept y.number).group ≡ y.number) x xs h) in
    let a = account_by kept x.number in
    let left = filter (λ (y : Group). not (y.number == g)) xs in
    let right = filter (λ (b : Account). not (b.group == g)) (accounts_of xs kept) in
    subst (λ m. accounts_of (cond (not (x.number == g)) (x ∷ left) left) kept ≡ cond (not (m == g)) (a ∷ right) right) (sym own)
    (⊎_elim
    (λ t. subst (λ b. accounts_of (cond b (x ∷ left) left) kept ≡ cond b (a ∷ right) right) (sym t) (ap (λ others. a ∷ others) rest))
    (λ f. subst (λ b. accounts_of (cond b (x ∷ left) left) kept ≡ cond b (a ∷ right) right) (sym f) rest)
    (cases_Bool (not (x.number == g))))

pub kept_removed : (groups : List Group) (kept : List Account) (g : ℕ) → BearNumbers groups kept →
    accounts_of (without_group groups g) kept ≡ filter (λ (a : Account). not (a.group == g)) (accounts_of groups kept)
unfolding without_group
kept_removed groups kept g bear = removed groups kept g (own_all groups kept bear)

-- the same groups with other rows
same_numbers : (f : Group → Group) → ((x : Group) → (f x).number ≡ x.number) → (xs : List Group) (kept : List Account) →
    accounts_of (map f xs) kept ≡ accounts_of xs kept
same_numbers f keeps [] kept = refl
same_numbers f keeps (x ∷ xs) kept =
    ap (λ n. account_by kept n ∷ accounts_of (map f xs) kept) (keeps x) ∙ ap (λ others. account_by kept x.number ∷ others) (same_numbers f keeps xs kept)

pub kept_limited : (groups : List Group) (kept : List Account) (g : ℕ) (limit : Option ℕ) →
    accounts_of (with_limit groups g limit) kept ≡ accounts_of groups kept
unfolding with_limit
kept_limited groups kept g limit = same_numbers (limited g limit) (limited-number g limit) groups kept

pub kept_flagged : (groups : List Group) (kept : List Account) (g : ℕ) (flag : Bool) → accounts_of (with_oom_group groups g flag) kept ≡ accounts_of groups kept
unfolding with_oom_group
kept_flagged groups kept g flag = same_numbers (flagged g flag) (flagged-number g flag) groups kept

-- ---- reading what is kept
-- a list is read at the group's number
pub read_at : {X : Type 0} (xs : List X) (i g : ℕ) (d e : X) → i < length xs → i ≡ g → get_or xs i d ≡ get_or xs g e
read_at xs i g d e within same = get_or_default xs i d e within ∙ ap (λ k. get_or xs k e) same

-- the account of a group that is there is the one kept under its number
pub account_kept : (groups : List Group) (kept : List Account) (s : List ReclaimSettings) (g : ℕ) → AreCharges (ledger_of groups kept s) → IsTrue (has_group groups g) →
    account_at (ledger_of groups kept s) g ≡ Some (account_by kept g)
account_kept groups kept s g facts there =
    let w = has_group-is groups g there in
    let c = group_at-contains groups g w.0 w.1 in
    let own = own_number groups kept g facts.numbers there in
    let f : Group → Account = λ x. account_by kept x.number in
    let here : Contains (accounts_of groups kept) (account_by kept g) = (
      c.0.0,
      omega (arith, c.0.1, length-map groups f),
      get_or-map f groups c.0.0 w.0 (account_by kept g) c.0.1 ∙ ap f c.0.2 ∙ ap (account_by kept) c.1,
    ) in
    ap (account_at (ledger_of groups kept s)) (sym own) ∙ account_at-there (ledger_of groups kept s) (account_by kept g) facts here

-- and its pages are the group's own
pub kept_pages : (groups : List Group) (kept : List Account) (s : List ReclaimSettings) (g : ℕ) → AreCharges (ledger_of groups kept s) → IsTrue (has_group groups g) →
    pages_of (ledger_of groups kept s) g ≡ (account_by kept g).pages
unfolding pages_of
kept_pages groups kept s g facts there = ap (λ o. option_map_or (λ (a : Account). a.pages) o 0) (account_kept groups kept s g facts there)

-- ---- a charge that was granted: the pages, and then the peaks
pub kept_charged : (groups : List Group) (kept mid new : List Account) (s : List ReclaimSettings) (usages : List ℕ) (g n : ℕ) → AreCharges (ledger_of groups kept s) →
    g < length kept → mid ≡ set kept g (record (account_by kept g) { pages = (account_by kept g).pages + n }) →
    AreUsages (with_charge (ledger_of groups kept s) g n) usages → AccountsOnPath groups g (with_usage_peak usages) mid new →
    accounts_of groups new ≡ charged groups (accounts_of groups kept) g n
unfolding charged
kept_charged groups kept mid new s usages g n facts within mid_is are walked =
    let xs = accounts_of groups kept in
    let more : accounts_of groups mid ≡ map (added g n) xs = ap (accounts_of groups) mid_is ∙ kept_added groups kept g n facts.numbers within in
    let bear : BearNumbers groups mid = ap (map (λ (a : Account). a.group)) more ∙ same_groups (added g n) (added-group g n) xs ∙ facts.numbers in
    let sums : (k : ℕ) → usage_by usages k ≡ usage_charged groups (accounts_of groups mid) k =
    λ k. are.sums k ∙ usage-peaked groups (map (added g n) xs) (map (added g n) xs) g k ∙ ap (λ ys. usage_charged groups ys k) (sym more) in
    kept_peaked groups mid new usages g bear walked sums ∙ ap (λ ys. map (peaked groups ys g) ys) more
