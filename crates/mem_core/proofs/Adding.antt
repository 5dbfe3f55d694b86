-- Sums and tests over the first numbers, one more.
use Rattle.std.proofs.Common.{◌≡◌, ℕ, ◌+◌, ◌-◌, ◌<◌, ◌≤◌, Bool, true, false, List, zero, suc, refl, sym, ◌∙◌, ap, arith, cond, inl, inr}
use Rattle.std.proofs.lemmas.Bool.{cases_Bool}
use Rattle.group_tree.specs.declared.group.Group.{Group}
use Rattle.group_tree.specs.Bounds.{most_groups}
use Rattle.group_tree.specs.Groups.{has_group, in_subtree, path_of, room_of, AreGroups}
use Rattle.group_tree.proofs.CallerLemmas.{number_in_room}
use Rattle.step_rules.specs.State.{sum_to, all_to}
use Rattle.step_rules.proofs.Sums.{all_each, all_at}

pub sum_start : (h : ℕ → ℕ) → sum_to 0 h ≡ 0
unfolding sum_to
sum_start h = refl

pub sum_next : (n : ℕ) (h : ℕ → ℕ) → sum_to (n + 1) h ≡ sum_to n h + h n
unfolding sum_to
sum_next n h = let e : n + 1 ≡ suc n = omega arith in ap (λ k. sum_to k h) e

pub all_is : (n : ℕ) (test : ℕ → Bool) → ((i : ℕ) → i < n → test i ≡ true) → true ≡ all_to n test
all_is n test each = sym (all_each n test each)

pub all_not : (n : ℕ) (test : ℕ → Bool) (i : ℕ) → i < n → test i ≡ false → false ≡ all_to n test
all_not n test i below wrong = dec (all_to n test) refl
  where
    dec : (b : Bool) → all_to n test ≡ b → false ≡ b
    dec true e = sym (sym (all_at n test e i below) ∙ wrong)
    dec false e = refl

pub above_there : (groups : List Group) (g h : ℕ) → has_group groups g ≡ false → in_subtree groups g h ≡ false
unfolding has_group in_subtree path_of
above_there groups g h gone = grind arith

pub below_there : (groups : List Group) (g h : ℕ) → has_group groups h ≡ false → in_subtree groups g h ≡ false
unfolding has_group in_subtree path_of
below_there groups g h gone = grind arith

-- numbers from which on nothing is added
sum_past : (n more : ℕ) (h : ℕ → ℕ) → ((i : ℕ) → n ≤ i → h i ≡ 0) → sum_to (n + more) h ≡ sum_to n h
sum_past n zero h none = let e : n + 0 ≡ n = omega arith in ap (λ k. sum_to k h) e
sum_past n (suc more) h none =
    let e : n + suc more ≡ n + more + 1 = omega arith in
    let before = sum_past n more h none in
    let last = none (n + more) (omega arith) in
    ap (λ k. sum_to k h) e ∙ sum_next (n + more) h ∙ omega (arith, before, last)

-- no number from the tree's room on is a group's, so a sum over a subtree may end there
pub sum_room : (groups : List Group) (g : ℕ) (of : ℕ → ℕ) → AreGroups groups
    → sum_to (room_of groups) (λ h. cond (in_subtree groups g h) (of h) 0) ≡ sum_to most_groups (λ h. cond (in_subtree groups g h) (of h) 0)
sum_room groups g of facts =
    let e : room_of groups + (most_groups - room_of groups) ≡ most_groups = omega (arith, facts.room) in
    sym (sum_past (room_of groups) (most_groups - room_of groups) one none) ∙ ap (λ k. sum_to k one) e
  where
    one : ℕ → ℕ
    one h = cond (in_subtree groups g h) (of h) 0

    none : (h : ℕ) → room_of groups ≤ h → one h ≡ 0
    none h past = elim (cases_Bool (has_group groups h)) [
      | inl there ↦ absurd (omega (arith, number_in_room groups h facts there))
      | inr gone ↦ ap (λ b. cond b (of h) 0) (below_there groups g h gone)
    ]
