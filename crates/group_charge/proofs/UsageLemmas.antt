-- How the usage of a group changes with a list of accounts, and that peaks cover it. Serves the usage clauses of
-- `try_charge` and `uncharge`, and the invariant of `Charges`.
use Rattle.std.proofs.Common.{◌≡◌, ◌≢◌, ℕ, ◌+◌, ◌-◌, ◌≤◌, Bool, true, false, not, cond, max, ◌==◌, IsTrue, All, Option, List, [], ◌∷◌, ◌++◌, map}
use Rattle.std.proofs.Common.{filter, get_or, refl, sym, ap, ◌∙◌, subst, arith, ⊎_elim}
use Rattle.std.specs.List.{sum_by, list_any}
use Rattle.std.proofs.lemmas.Bool.{cond-true, cond-false, cases_Bool, cond_both, eqb-true, eqb-false, not-false, not-true, both_ways, false_from_ne_true}
use Rattle.std.proofs.lemmas.List.Elements.{All-map, All-head, All-tail, All-filter, All-push, filter_passes}
use Rattle.std.proofs.lemmas.List.Sums.{sum_by-cons, sum_by_push}
use Rattle.group_tree.specs.declared.group.Group.{Group}
use Rattle.group_tree.specs.declared.event.EventKey.{EventKey}
use Rattle.group_tree.specs.Groups.{AreGroups, has_group, in_subtree, with_group, with_limit, with_oom_group, without_group}
use Rattle.group_tree.proofs.GroupLemmas.{CanMake}
use Rattle.group_tree.proofs.CallerLemmas.{in_subtree-above, in_subtree-flagged, in_subtree-limited, in_subtree-with, in_subtree-with_new, in_subtree-without}
use Rattle.group_charge.specs.Charges.{Account, usage_charged, added, taken, peaked, with_event_at, charged, empty_account}
use Rattle.group_charge.proofs.SumLemmas.{share, extra, extra_once, AreDistinct, sum-plus, sum-map_same, peaked-group, peaked-share, added-group, taken-group}

-- the same items make the same sum
pub sum-same : (F G : Account → ℕ) (xs : List Account) → All (λ x. F x ≡ G x) xs → sum_by F xs ≡ sum_by G xs
sum-same F G [] h = refl
sum-same F G (x ∷ xs) h =
    omega (arith, All-head (λ y. F y ≡ G y) x xs h, sum-same F G xs (All-tail (λ y. F y ≡ G y) x xs h), sum_by-cons F x xs, sum_by-cons G x xs)

-- each item loses its part, so the sum loses the sum of the parts
sum-minus : (F G H : Account → ℕ) (f : Account → Account) (xs : List Account) → All (λ x. G (f x) + H x ≡ F x) xs →
    sum_by G (map f xs) + sum_by H xs ≡ sum_by F xs
sum-minus F G H f [] h = refl
sum-minus F G H f (x ∷ xs) h =
    omega (
      arith,
      All-head (λ y. G (f y) + H y ≡ F y) x xs h,
      sum-minus F G H f xs
          (All-tail (λ y. G (f y) + H y ≡ F y) x xs h),
      sum_by-cons F x xs,
      sum_by-cons G (f x) (map f xs),
      sum_by-cons H x xs,
    )

-- what n pages of g are to m
abbrev pub part : List Group → ℕ → ℕ → ℕ → ℕ
part groups m g n = cond (in_subtree groups m g) n 0

-- n pages of g raise what its account adds to the usage of m
share-added : (groups : List Group) (m g n : ℕ) (a : Account) → share groups m (added g n a) ≡ share groups m a + extra g (part groups m g n) a
share-added groups m g n a =
    ⊎_elim
    (λ t.
    let same : a.group ≡ g = eqb-true a.group g t in
    let new : share groups m (added g n a) ≡ cond (in_subtree groups m a.group) (a.pages + n) 0 =
    ap (share groups m) (cond-true (a.group == g) (record a { pages = a.pages + n }) a t) in
    let more : extra g (part groups m g n) a ≡ part groups m a.group n = cond-true (a.group == g) (part groups m g n) 0 t
    ∙ ap (λ h. part groups m h n) (sym same) in
    ⊎_elim
    (λ below.
    let x : cond (in_subtree groups m a.group) (a.pages + n) 0 ≡ a.pages + n = cond-true _ (a.pages + n) 0 below in
    let y : share groups m a ≡ a.pages = cond-true _ a.pages 0 below in
    let z : part groups m a.group n ≡ n = cond-true _ n 0 below in
    omega arith)
    (λ apart.
    let x : cond (in_subtree groups m a.group) (a.pages + n) 0 ≡ 0 = cond-false _ (a.pages + n) 0 apart in
    let y : share groups m a ≡ 0 = cond-false _ a.pages 0 apart in
    let z : part groups m a.group n ≡ 0 = cond-false _ n 0 apart in
    omega arith)
    (cases_Bool (in_subtree groups m a.group)))
    (λ f.
    let new : share groups m (added g n a) ≡ share groups m a = ap (share groups m) (cond-false (a.group == g) (record a { pages = a.pages + n }) a f) in
    let more : extra g (part groups m g n) a ≡ 0 = cond-false (a.group == g) (part groups m g n) 0 f in
    omega arith)
    (cases_Bool (a.group == g))

-- and what is taken from g lowers it
share-taken : (groups : List Group) (m g n : ℕ) (a : Account) → (a.group ≡ g → n ≤ a.pages) →
    share groups m (taken g n a) + extra g (part groups m g n) a ≡ share groups m a
share-taken groups m g n a enough =
    ⊎_elim
    (λ t.
    let same : a.group ≡ g = eqb-true a.group g t in
    let room : n ≤ a.pages = enough same in
    let new : share groups m (taken g n a) ≡ cond (in_subtree groups m a.group) (a.pages - n) 0 =
    ap (share groups m) (cond-true (a.group == g) (record a { pages = a.pages - n }) a t) in
    let more : extra g (part groups m g n) a ≡ part groups m a.group n = cond-true (a.group == g) (part groups m g n) 0 t
    ∙ ap (λ h. part groups m h n) (sym same) in
    ⊎_elim
    (λ below.
    let x : cond (in_subtree groups m a.group) (a.pages - n) 0 ≡ a.pages - n = cond-true _ (a.pages - n) 0 below in
    let y : share groups m a ≡ a.pages = cond-true _ a.pages 0 below in
    let z : part groups m a.group n ≡ n = cond-true _ n 0 below in
    omega arith)
    (λ apart.
    let x : cond (in_subtree groups m a.group) (a.pages - n) 0 ≡ 0 = cond-false _ (a.pages - n) 0 apart in
    let y : share groups m a ≡ 0 = cond-false _ a.pages 0 apart in
    let z : part groups m a.group n ≡ 0 = cond-false _ n 0 apart in
    omega arith)
    (cases_Bool (in_subtree groups m a.group)))
    (λ f.
    let new : share groups m (taken g n a) ≡ share groups m a = ap (share groups m) (cond-false (a.group == g) (record a { pages = a.pages - n }) a f) in
    let more : extra g (part groups m g n) a ≡ 0 = cond-false (a.group == g) (part groups m g n) 0 f in
    omega arith)
    (cases_Bool (a.group == g))

-- so n pages of g raise the usage of m where g lies in its subtree
pub usage-added : (groups : List Group) (xs : List Account) (g n m : ℕ) → AreDistinct xs → list_any (λ a. a.group == g) xs ≡ true →
    usage_charged groups (map (added g n) xs) m ≡ usage_charged groups xs m + part groups m g n
unfolding usage_charged
usage-added groups xs g n m distinct there =
    sum-plus (share groups m) (share groups m) (extra g (part groups m g n)) (added g n) xs (share-added groups m g n)
    ∙ ap (λ k. sum_by (share groups m) xs + k) (extra_once g (part groups m g n) xs distinct there)

-- raised peaks change no usage
pub usage-peaked : (groups : List Group) (all xs : List Account) (g m : ℕ) → usage_charged groups (map (peaked groups all g) xs) m ≡ usage_charged groups xs m
unfolding usage_charged
usage-peaked groups all xs g m = sum-map_same (share groups m) (peaked groups all g) (peaked-share groups all g m) xs

-- a charge raises the usage of the group and of all above it
pub usage-charged : (groups : List Group) (xs : List Account) (g n m : ℕ) → AreDistinct xs → list_any (λ a. a.group == g) xs ≡ true →
    usage_charged groups (charged groups xs g n) m ≡ usage_charged groups xs m + part groups m g n
unfolding charged
usage-charged groups xs g n m distinct there = usage-peaked groups (map (added g n) xs) (map (added g n) xs) g m ∙ usage-added groups xs g n m distinct there

-- and what is taken back lowers it
pub usage-taken : (groups : List Group) (xs : List Account) (g n m : ℕ) → AreDistinct xs → list_any (λ a. a.group == g) xs ≡ true →
    All (λ a. a.group ≡ g → n ≤ a.pages) xs → usage_charged groups (map (taken g n) xs) m + part groups m g n ≡ usage_charged groups xs m
unfolding usage_charged
usage-taken groups xs g n m distinct there enough =
    ap (λ k. sum_by (share groups m) (map (taken g n) xs) + k) (sym (extra_once g (part groups m g n) xs distinct there))
    ∙ sum-minus (share groups m) (share groups m) (extra g (part groups m g n)) (taken g n) xs
    (λ k d lt. share-taken groups m g n (get_or xs k d) (enough k d lt))

-- a usage and its part, by cases
pub part-is : (groups : List Group) (m g n u : ℕ) → u + part groups m g n ≡ cond (in_subtree groups m g) (u + n) u
part-is groups m g n u =
    ⊎_elim
    (λ t. ap (λ k. u + k) (cond-true _ n 0 t) ∙ sym (cond-true _ (u + n) u t))
    (λ f. let zero : part groups m g n ≡ 0 = cond-false _ n 0 f in let same : u + part groups m g n ≡ u = omega arith in same ∙ sym (cond-false _ (u + n) u f))
    (cases_Bool (in_subtree groups m g))

-- ---- peaks cover usage
abbrev pub PeaksCover : List Group → List Account → Type 0
PeaksCover groups xs = All (λ a. usage_charged groups xs a.group ≤ a.peak) xs

-- added pages leave the peak
added-peak : (g n : ℕ) (a : Account) → (added g n a).peak ≡ a.peak
added-peak g n a = cond_both (a.group == g) (record a { pages = a.pages + n }) a (λ (x : Account). x.peak ≡ a.peak) (λ _. refl) (λ _. refl)

-- subtracted pages leave the peak
taken-peak : (g n : ℕ) (a : Account) → (taken g n a).peak ≡ a.peak
taken-peak g n a = cond_both (a.group == g) (record a { pages = a.pages - n }) a (λ (x : Account). x.peak ≡ a.peak) (λ _. refl) (λ _. refl)

-- peaks cover usage after a charge
pub cover_charged : (groups : List Group) (xs : List Account) (g n : ℕ) → AreDistinct xs → list_any (λ a. a.group == g) xs ≡ true →
    PeaksCover groups xs → PeaksCover groups (charged groups xs g n)
unfolding charged
cover_charged groups xs g n distinct there cover =
    let more = map (added g n) xs in
    let new = map (peaked groups more g) more in
    All-map (λ x. usage_charged groups new x.group ≤ x.peak) (peaked groups more g) more
    (All-map (λ y. usage_charged groups new (peaked groups more g y).group ≤ (peaked groups more g y).peak) (added g n) xs
    (λ k d lt.
    let a = get_or xs k d in
    let y = added g n a in
    let own : (peaked groups more g y).group ≡ a.group = peaked-group groups more g y ∙ added-group g n a in
    let usage : usage_charged groups new (peaked groups more g y).group ≡ usage_charged groups more a.group = ap (usage_charged groups new) own
    ∙ usage-peaked groups more more g a.group in
    let also : usage_charged groups more y.group ≡ usage_charged groups more a.group = ap (usage_charged groups more) (added-group g n a) in
    let peak : y.peak ≡ a.peak = added-peak g n a in
    let old : usage_charged groups xs a.group ≤ a.peak = cover k d lt in
    let rise : usage_charged groups more a.group ≡ usage_charged groups xs a.group + part groups a.group g n = usage-added groups xs g n a.group distinct there in
    ⊎_elim
    (λ t.
    let top : (peaked groups more g y).peak ≡ max y.peak (usage_charged groups more y.group) =
    cond-true (in_subtree groups y.group g) (max y.peak (usage_charged groups more y.group)) y.peak t in
    omega arith)
    (λ f.
    let top : (peaked groups more g y).peak ≡ y.peak = cond-false (in_subtree groups y.group g) (max y.peak (usage_charged groups more y.group)) y.peak f in
    let none : part groups a.group g n ≡ 0 = cond-false (in_subtree groups a.group g) n 0 (ap (λ h. in_subtree groups h g) (sym (added-group g n a)) ∙ f) in
    omega arith)
    (cases_Bool (in_subtree groups y.group g))))

-- ---- lists with a smaller or an equal usage

-- pages that are taken raise no share
share-taken_le : (groups : List Group) (m g n : ℕ) (a : Account) → share groups m (taken g n a) ≤ share groups m a
share-taken_le groups m g n a =
    cond_both (a.group == g) (record a { pages = a.pages - n }) a (λ (x : Account). share groups m x ≤ share groups m a)
    (λ _. ⊎_elim
    (λ t. omega (arith, cond-true (in_subtree groups m a.group) (a.pages - n) 0 t, cond-true (in_subtree groups m a.group) a.pages 0 t))
    (λ f. omega (arith, cond-false (in_subtree groups m a.group) (a.pages - n) 0 f))
    (cases_Bool (in_subtree groups m a.group)))
    (λ _. omega arith)

-- nor any usage
usage-taken_le : (groups : List Group) (xs : List Account) (g n m : ℕ) → usage_charged groups (map (taken g n) xs) m ≤ usage_charged groups xs m
unfolding usage_charged
usage-taken_le groups [] g n m = omega arith
usage-taken_le groups (x ∷ xs) g n m =
    omega (
      arith,
      usage-taken_le groups xs g n m,
      share-taken_le groups m g n x,
      sum_by-cons (share groups m) (taken g n x)
          (map (taken g n) xs),
      sum_by-cons (share groups m) x xs,
    )

-- peaks cover usage after pages were taken
pub cover_taken : (groups : List Group) (xs : List Account) (g n : ℕ) → PeaksCover groups xs → PeaksCover groups (map (taken g n) xs)
unfolding usage_charged
cover_taken groups xs g n cover =
    All-map (λ x. usage_charged groups (map (taken g n) xs) x.group ≤ x.peak) (taken g n) xs
    (λ k d lt.
    let a = get_or xs k d in
    let less : usage_charged groups (map (taken g n) xs) a.group ≤ usage_charged groups xs a.group = usage-taken_le groups xs g n a.group in
    let own : usage_charged groups (map (taken g n) xs) (taken g n a).group ≡ usage_charged groups (map (taken g n) xs) a.group =
    ap (usage_charged groups (map (taken g n) xs)) (taken-group g n a) in
    omega (arith, less, own, cover k d lt, taken-peak g n a))

-- ---- other trees
-- if the same accounts are in the subtree, the usage is the same
usage_groups : (groups others : List Group) (xs : List Account) (m : ℕ) → All (λ a. in_subtree groups m a.group ≡ in_subtree others m a.group) xs →
    usage_charged groups xs m ≡ usage_charged others xs m
unfolding usage_charged
usage_groups groups others xs m h = sum-same (share groups m) (share others m) xs (λ k d lt. ap (λ b. cond b (get_or xs k d).pages 0) (h k d lt))

-- if each group lies in the same subtrees of both trees, usage is the same, and peaks cover it
pub usage-as : (groups others : List Group) (xs : List Account) (m : ℕ) → ((g h : ℕ) → in_subtree groups g h ≡ in_subtree others g h) →
    usage_charged groups xs m ≡ usage_charged others xs m
usage-as groups others xs m same = usage_groups groups others xs m (λ j e h. same m (get_or xs j e).group)

pub cover_as : (groups others : List Group) (xs : List Account) → ((g h : ℕ) → in_subtree groups g h ≡ in_subtree others g h) → PeaksCover others xs →
    PeaksCover groups xs
cover_as groups others xs same cover = λ k d lt.
    let a = get_or xs k d in
    omega (arith, cover k d lt, usage-as groups others xs a.group same)

-- another limit changes no usage
pub usage-limited : (groups : List Group) (xs : List Account) (g m : ℕ) (limit : Option ℕ) → usage_charged (with_limit groups g limit) xs m ≡ usage_charged groups xs m
usage-limited groups xs g m limit = usage-as (with_limit groups g limit) groups xs m (λ k h. in_subtree-limited groups g k h limit)

-- nor does a flag
pub usage-flagged : (groups : List Group) (xs : List Account) (g m : ℕ) (flag : Bool) → usage_charged (with_oom_group groups g flag) xs m ≡ usage_charged groups xs m
usage-flagged groups xs g m flag = usage-as (with_oom_group groups g flag) groups xs m (λ k h. in_subtree-flagged groups g k h flag)

-- nor does a note
pub usage-noted : (key : EventKey) (groups : List Group) (xs : List Account) (g m : ℕ) → usage_charged groups (map (with_event_at key groups g) xs) m ≡ usage_charged groups xs m
unfolding usage_charged
usage-noted key groups xs g m = sum-map_same (share groups m) (with_event_at key groups g) (λ x. refl) xs

-- peaks cover usage after a note
pub cover_noted : (key : EventKey) (groups : List Group) (xs : List Account) (g : ℕ) → PeaksCover groups xs → PeaksCover groups (map (with_event_at key groups g) xs)
unfolding usage_charged
cover_noted key groups xs g cover =
    All-map (λ x. usage_charged groups (map (with_event_at key groups g) xs) x.group ≤ x.peak) (with_event_at key groups g) xs
    (λ k d lt. let a = get_or xs k d in omega (arith, cover k d lt, sum-map_same (share groups a.group) (with_event_at key groups g) (λ x. refl) xs))

-- what is left of a list sums to no more
sum-filter_le : (F G : Account → ℕ) (p : Account → Bool) (xs : List Account) → All (λ x. p x ≡ true → F x ≤ G x) xs → sum_by F (filter p xs) ≤ sum_by G xs
sum-filter_le F G p [] h = omega arith
sum-filter_le F G p (x ∷ xs) h =
    let rest = sum-filter_le F G p xs (All-tail (λ y. p y ≡ true → F y ≤ G y) x xs h) in
    let whole = sum_by-cons G x xs in
    ⊎_elim
    (λ t.
    let here : F x ≤ G x = All-head (λ y. p y ≡ true → F y ≤ G y) x xs h t in
    let sum = sum_by-cons F x (filter p xs) in
    subst (λ b. sum_by F (cond b (x ∷ filter p xs) (filter p xs)) ≤ sum_by G (x ∷ xs)) (sym t) (omega arith))
    (λ f. subst (λ b. sum_by F (cond b (x ∷ filter p xs) (filter p xs)) ≤ sum_by G (x ∷ xs)) (sym f) (omega arith))
    (cases_Bool (p x))

-- peaks cover usage after a group went
pub cover_removed : (groups : List Group) (xs : List Account) (g : ℕ) → PeaksCover groups xs →
    PeaksCover (without_group groups g) (filter (λ a. not (a.group == g)) xs)
unfolding usage_charged
cover_removed groups xs g cover =
    let test : Account → Bool = λ a. not (a.group == g) in
    let kept : All (λ a. usage_charged groups xs a.group ≤ a.peak) (filter test xs) = All-filter test (λ a. usage_charged groups xs a.group ≤ a.peak) xs cover in
    let others : All (λ a. test a ≡ true) (filter test xs) = filter_passes test xs in
    λ k d lt.
    let a = get_or (filter test xs) k d in
    let apart : a.group ≢ g = eqb-false a.group g (not-true (a.group == g) (others k d lt)) in
    let less : sum_by (share (without_group groups g) a.group) (filter test xs) ≤ sum_by (share groups a.group) xs =
    sum-filter_le (share (without_group groups g) a.group) (share groups a.group) test xs
    (λ j e h t.
    let x = get_or xs j e in
    let other : x.group ≢ g = eqb-false x.group g (not-true (x.group == g) t) in
    let same : share (without_group groups g) a.group x ≡ share groups a.group x =
    ap (λ b. cond b x.pages 0) (in_subtree-without groups g a.group x.group apart other) in
    omega arith) in
    omega (arith, less, kept k d lt)

-- zeros sum to zero
sum-zero : (xs : List Account) → sum_by (λ _. 0) xs ≡ 0
sum-zero [] = refl
sum-zero (x ∷ xs) = omega (arith, sum-zero xs, sum_by-cons (λ (_ : Account). 0) x xs)

-- a number of no group has no usage
pub usage-absent : (groups : List Group) (xs : List Account) (m : ℕ) → has_group groups m ≡ false → usage_charged groups xs m ≡ 0
unfolding usage_charged
usage-absent groups xs m absent =
    sum-same (share groups m) (λ _. 0) xs
    (λ k d lt.
    let a = get_or xs k d in
    cond-false (in_subtree groups m a.group) a.pages 0
    (false_from_ne_true (in_subtree groups m a.group) (λ t. both_ways (has_group groups m) absent (in_subtree-above groups m a.group t))))
    ∙ sum-zero xs

-- where what is left out counts nothing, what is left of a list sums to the same
sum-filter_same : (F G : Account → ℕ) (p : Account → Bool) (xs : List Account) → All (λ x. p x ≡ true → F x ≡ G x) xs →
    All (λ x. p x ≡ false → G x ≡ 0) xs → sum_by F (filter p xs) ≡ sum_by G xs
sum-filter_same F G p [] same none = refl
sum-filter_same F G p (x ∷ xs) same none =
    let rest = sum-filter_same F G p xs (All-tail (λ y. p y ≡ true → F y ≡ G y) x xs same) (All-tail (λ y. p y ≡ false → G y ≡ 0) x xs none) in
    let whole = sum_by-cons G x xs in
    ⊎_elim
    (λ t.
    let here : F x ≡ G x = All-head (λ y. p y ≡ true → F y ≡ G y) x xs same t in
    let sum = sum_by-cons F x (filter p xs) in
    subst (λ b. sum_by F (cond b (x ∷ filter p xs) (filter p xs)) ≡ sum_by G (x ∷ xs)) (sym t) (omega arith))
    (λ f.
    let here : G x ≡ 0 = All-head (λ y. p y ≡ false → G y ≡ 0) x xs none f in
    subst (λ b. sum_by F (cond b (x ∷ filter p xs) (filter p xs)) ≡ sum_by G (x ∷ xs)) (sym f) (omega arith))
    (cases_Bool (p x))

-- a group without pages of its own that goes changes no usage of the others
pub usage-removed_other : (groups : List Group) (xs : List Account) (g m : ℕ) → m ≢ g → All (λ a. a.group ≡ g → a.pages ≡ 0) xs →
    usage_charged (without_group groups g) (filter (λ a. not (a.group == g)) xs) m ≡ usage_charged groups xs m
unfolding usage_charged
usage-removed_other groups xs g m other none =
    sum-filter_same (share (without_group groups g) m) (share groups m) (λ a. not (a.group == g)) xs
    (λ k d lt t.
    let a = get_or xs k d in
    ap (λ b. cond b a.pages 0) (in_subtree-without groups g m a.group other (eqb-false a.group g (not-true (a.group == g) t))))
    (λ k d lt f.
    let a = get_or xs k d in
    let zero : a.pages ≡ 0 = none k d lt (eqb-true a.group g (not-false (a.group == g) f)) in
    ap (λ n. cond (in_subtree groups m a.group) n 0) zero ∙ cond_both (in_subtree groups m a.group) 0 0 (λ n. n ≡ 0) (λ _. refl) (λ _. refl))

-- an empty account adds to no usage
usage-push_empty : (groups : List Group) (xs : List Account) (n m : ℕ) → usage_charged groups (xs ++ empty_account n ∷ []) m ≡ usage_charged groups xs m
unfolding usage_charged
usage-push_empty groups xs n m =
    let none : share groups m (empty_account n) ≡ 0 = cond_both (in_subtree groups m n) 0 0 (λ x. x ≡ 0) (λ _. refl) (λ _. refl) in
    omega (arith, sum_by_push (share groups m) xs (empty_account n))

-- the usage of a new group is 0, and that of the others is as before
pub usage-new : (groups : List Group) (xs : List Account) (n : ℕ) (path : List ℕ) → AreGroups groups → CanMake groups path →
    has_group groups n ≡ false → All (λ a. IsTrue (has_group groups a.group)) xs → usage_charged (with_group groups n path) (xs ++ empty_account n ∷ []) n ≡ 0
unfolding usage_charged
usage-new groups xs n path facts can free known =
    usage-push_empty (with_group groups n path) xs n n
    ∙ sum-same (share (with_group groups n path) n) (λ _. 0) xs
    (λ k d lt.
    let a = get_or xs k d in
    let out : in_subtree (with_group groups n path) n a.group ≡ false =
    false_from_ne_true (in_subtree (with_group groups n path) n a.group) (λ t.
    both_ways (has_group groups n) free (ap (has_group groups) (sym (in_subtree-with_new groups n a.group path facts can free t)) ∙ known k d lt)) in
    cond-false (in_subtree (with_group groups n path) n a.group) a.pages 0 out)
    ∙ sum-zero xs

-- a new group changes no usage of the others
pub usage-new_other : (groups : List Group) (xs : List Account) (n m : ℕ) (path : List ℕ) → has_group groups n ≡ false →
    All (λ a. IsTrue (has_group groups a.group)) xs → m ≢ n → usage_charged (with_group groups n path) (xs ++ empty_account n ∷ []) m ≡ usage_charged groups xs m
usage-new_other groups xs n m path free known other =
    usage-push_empty (with_group groups n path) xs n m
    ∙ usage_groups (with_group groups n path) groups xs m
    (λ k d lt. in_subtree-with groups n m (get_or xs k d).group path other
    (λ same. both_ways (has_group groups n) free (ap (has_group groups) (sym same) ∙ known k d lt)))

-- peaks cover usage with a new group
pub cover_new : (groups : List Group) (xs : List Account) (n : ℕ) (path : List ℕ) → AreGroups groups → CanMake groups path →
    has_group groups n ≡ false → All (λ a. IsTrue (has_group groups a.group)) xs → PeaksCover groups xs →
    PeaksCover (with_group groups n path) (xs ++ empty_account n ∷ [])
cover_new groups xs n path facts can free known cover =
    All-push (λ a. usage_charged (with_group groups n path) (xs ++ empty_account n ∷ []) a.group ≤ a.peak) xs (empty_account n)
    (λ k d lt.
    let a = get_or xs k d in
    let other : a.group ≢ n = λ same. both_ways (has_group groups n) free (ap (has_group groups) (sym same) ∙ known k d lt) in
    omega (arith, cover k d lt, usage-new_other groups xs n a.group path free known other))
    (omega (arith, usage-new groups xs n path facts can free known))
