-- Sums of pages over accounts, and lists of accounts that are changed one after another. Serves `current`, `try_charge`
-- and `uncharge`.
use Rattle.std.proofs.Common.{◌≡◌, ◌≢◌, ℕ, suc, ◌||◌, AllPairs, add-zero, ◌+◌, ◌-◌, ◌≤◌, true, false, cond, ◌==◌, List, [], ◌∷◌}
use Rattle.std.proofs.Common.{map, get_or, refl, sym, ap, ◌∙◌, subst, arith, ⊎_elim}
use Rattle.std.specs.List.{sum_by, list_any}
use Rattle.std.proofs.lemmas.Bool.{cond-true, cond-false, cases_Bool, cond_both, or_parts, false_from_ne_true, false≢true, eqb-true}
use Rattle.std.proofs.lemmas.List.Folds.{Any-from_list_any}
use Rattle.std.proofs.lemmas.List.{get_or_default}
use Rattle.std.proofs.lemmas.List.Sums.{sum_by-le-sum_by, sum_by-cons}
use Rattle.group_tree.specs.declared.group.Group.{Group}
use Rattle.group_tree.specs.Groups.{in_subtree}
use Rattle.group_charge.specs.Charges.{Account, usage_charged, total_pages, added, taken, peaked}

-- ---- the usage of a group, summed one account after another
-- what an account adds to the usage of g
abbrev pub share : List Group → ℕ → Account → ℕ
share groups g a = cond (in_subtree groups g a.group) a.pages 0

-- an account adds no more than its pages
share-le : (groups : List Group) (g : ℕ) (a : Account) → share groups g a ≤ a.pages
share-le groups g a = cond_both (in_subtree groups g a.group) a.pages 0 (λ x. x ≤ a.pages) (λ _. omega arith) (λ _. omega arith)

-- no usage is above all that is charged
pub usage-le-total : (groups : List Group) (xs : List Account) (g : ℕ) → usage_charged groups xs g ≤ total_pages xs
unfolding usage_charged
usage-le-total groups xs g = sum_by-le-sum_by (share groups g) (λ a. a.pages) xs (share-le groups g)

-- ---- a list that is changed in place, up to i
-- a change that keeps F of each item keeps the sum
module _ {X : Type 0} (F : X → ℕ) (f : X → X) (same : (x : X) → F (f x) ≡ F x) where
  pub sum-map_same : (xs : List X) → sum_by F (map f xs) ≡ sum_by F xs
  sum-map_same [] = refl
  sum-map_same (x ∷ xs) =
      sum_by-cons F (f x) (map f xs) ∙ ap (λ n. n + sum_by F (map f xs)) (same x) ∙ ap (λ n. F x + n) (sum-map_same xs) ∙ sym (sum_by-cons F x xs)

-- a raised peak changes no pages
pub peaked-pages : (groups : List Group) (all : List Account) (g : ℕ) (a : Account) → (peaked groups all g a).pages ≡ a.pages
peaked-pages groups all g a = refl

-- nor the group's number
pub peaked-group : (groups : List Group) (all : List Account) (g : ℕ) (a : Account) → (peaked groups all g a).group ≡ a.group
peaked-group groups all g a = refl

-- nor what the account adds to a usage
pub peaked-share : (groups : List Group) (all : List Account) (g m : ℕ) (a : Account) → share groups m (peaked groups all g a) ≡ share groups m a
peaked-share groups all g m a = refl

-- ---- pages that come to one group
-- k for an account of g, and nothing for the others
abbrev pub extra : ℕ → ℕ → Account → ℕ
extra g k a = cond (a.group == g) k 0

-- no group has two accounts
abbrev pub AreDistinct : List Account → Type 0
AreDistinct xs = AllPairs (λ a b. a.group ≢ b.group) xs

-- nor has it in the rest of the list
distinct-tail : (x : Account) (xs : List Account) → AreDistinct (x ∷ xs) → AreDistinct xs
distinct-tail x xs h = λ i j d below lt. h (suc i) (suc j) d (omega arith) (omega arith)

-- a group without an account gets nothing
extra_none : (g k : ℕ) (xs : List Account) → list_any (λ a. a.group == g) xs ≡ false → sum_by (extra g k) xs ≡ 0
extra_none g k [] e = refl
extra_none g k (x ∷ xs) e =
    let parts = or_parts (x.group == g) (list_any (λ a. a.group == g) xs) e in
    let here : extra g k x ≡ 0 = cond-false (x.group == g) k 0 parts.0 in
    let rest = extra_none g k xs parts.1 in
    omega (arith, sum_by-cons (extra g k) x xs)

-- after a group's account there is no other of it
others-none : (g : ℕ) (x : Account) (xs : List Account) → AreDistinct (x ∷ xs) → (x.group == g) ≡ true → list_any (λ a. a.group == g) xs ≡ false
others-none g x xs h t =
    false_from_ne_true (list_any (λ a. a.group == g) xs) (λ some.
    let w = Any-from_list_any (λ (a : Account). a.group == g) xs some in
    let same : (get_or xs w.0 x).group ≡ w.1.group = ap (λ (a : Account). a.group) (get_or_default xs w.0 x w.1 w.2 ∙ w.3) in
    h 0 (suc w.0) x (omega arith) (omega (arith, w.2)) (eqb-true x.group g t ∙ sym (same ∙ eqb-true w.1.group g w.4)))

-- a group with an account gets k once
pub extra_once : (g k : ℕ) (xs : List Account) → AreDistinct xs → list_any (λ a. a.group == g) xs ≡ true → sum_by (extra g k) xs ≡ k
extra_once g k [] h e = absurd (false≢true e)
extra_once g k (x ∷ xs) h e =
    ⊎_elim
    (λ t.
    let here : extra g k x ≡ k = cond-true (x.group == g) k 0 t in
    let rest = extra_none g k xs (others-none g x xs h t) in
    omega (arith, sum_by-cons (extra g k) x xs))
    (λ f.
    let here : extra g k x ≡ 0 = cond-false (x.group == g) k 0 f in
    let later : list_any (λ a. a.group == g) xs ≡ true = subst (λ b. (b || list_any (λ a. a.group == g) xs) ≡ true) f e in
    let rest = extra_once g k xs (distinct-tail x xs h) later in
    omega (arith, sum_by-cons (extra g k) x xs))
    (cases_Bool (x.group == g))

-- a group gets k at most
extra-le : (g k : ℕ) (xs : List Account) → AreDistinct xs → sum_by (extra g k) xs ≤ k
extra-le g k xs h =
    ⊎_elim
    (λ t. let e = extra_once g k xs h t in omega arith)
    (λ f. let e = extra_none g k xs f in omega arith)
    (cases_Bool (list_any (λ a. a.group == g) xs))

-- two sums that differ by a third
pub sum-plus : (F G H : Account → ℕ) (f : Account → Account) (xs : List Account) → ((x : Account) → F (f x) ≡ G x + H x) →
    sum_by F (map f xs) ≡ sum_by G xs + sum_by H xs
sum-plus F G H f [] each = refl
sum-plus F G H f (x ∷ xs) each =
    omega (arith, sum-plus F G H f xs each, each x, sum_by-cons F (f x) (map f xs), sum_by-cons G x xs, sum_by-cons H x xs)

-- n pages are added to the account of g alone
added-pages : (g n : ℕ) (a : Account) → (added g n a).pages ≡ a.pages + extra g n a
added-pages g n a =
    ⊎_elim
    (λ t. ap (λ (x : Account). x.pages) (cond-true (a.group == g) (record a { pages = a.pages + n }) a t)
    ∙ ap (λ k. a.pages + k) (sym (cond-true (a.group == g) n 0 t)))
    (λ f. ap (λ (x : Account). x.pages) (cond-false (a.group == g) (record a { pages = a.pages + n }) a f)
    ∙ sym (ap (λ k. a.pages + k) (cond-false (a.group == g) n 0 f) ∙ add-zero a.pages))
    (cases_Bool (a.group == g))

-- added pages change no group's number
pub added-group : (g n : ℕ) (a : Account) → (added g n a).group ≡ a.group
added-group g n a = cond_both (a.group == g) (record a { pages = a.pages + n }) a (λ (x : Account). x.group ≡ a.group) (λ _. refl) (λ _. refl)

-- nor do pages that are taken
pub taken-group : (g n : ℕ) (a : Account) → (taken g n a).group ≡ a.group
taken-group g n a = cond_both (a.group == g) (record a { pages = a.pages - n }) a (λ (x : Account). x.group ≡ a.group) (λ _. refl) (λ _. refl)

-- all that is charged grows by n at most
pub total-added : (g n : ℕ) (xs : List Account) → AreDistinct xs → total_pages (map (added g n) xs) ≤ total_pages xs + n
total-added g n xs h =
    let sum = sum-plus (λ a. a.pages) (λ a. a.pages) (extra g n) (added g n) xs (added-pages g n) in
    omega (arith, sum, extra-le g n xs h)

-- pages that are taken raise no total
pub total-taken : (g n : ℕ) (xs : List Account) → total_pages (map (taken g n) xs) ≤ total_pages xs
total-taken g n [] = omega arith
total-taken g n (x ∷ xs) =
    let here : (taken g n x).pages ≤ x.pages =
    cond_both (x.group == g) (record x { pages = x.pages - n }) x (λ (y : Account). y.pages ≤ x.pages) (λ _. omega arith) (λ _. omega arith) in
    omega (arith, total-taken g n xs, sum_by-cons (λ (a : Account). a.pages) (taken g n x) (map (taken g n) xs), sum_by-cons (λ (a : Account). a.pages) x xs)
