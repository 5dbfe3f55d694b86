-- A walk from a group up to the root, past the groups that pass a test. Serves callers that walk by `Tree::parent` or by
-- `Tree::ancestors`.
use Rattle.std.proofs.Common.{◌≡◌, ◌≢◌, ℕ, ◌<◌, Bool, true, false, not, ◌&&◌, Option, Some, None, List, [], ◌∷◌, refl, sym, ap, ◌∙◌, subst, arith}
use Rattle.std.proofs.Common.{⊎_elim, ◌⊎◌, inl, inr}
use Rattle.std.specs.Option.{option_map_or}
use Rattle.std.proofs.lemmas.Option.{none-some, same_Some}
use Rattle.group_tree.specs.{depth_at, ancestors_of, ancestors_from, is_in_subtree, is_passed, depth_of, has_group, in_subtree, parent_of, AreGroups}
use Rattle.group_tree.proofs.AncestorLemmas.{ancestors_of-step, parent_of-none_root}
use Rattle.std.proofs.lemmas.Bool.{both_ways, cases_Bool, false_from_ne_true}
use Rattle.group_tree.specs.declared.group.Group.{Group}
use Rattle.group_tree.proofs.CallerLemmas.{in_subtree-root, in_subtree-refl, in_subtree-trans, in_subtree-above, in_subtree-antisym}
use Rattle.group_tree.proofs.CallerLemmas.{in_subtree-parent_of, in_subtree-above_parent, parent_of-depth}

-- a parent's path has fewer names, so the walk ends
pub parent_depth : (groups : List Group) (m p : ℕ) → AreGroups groups → parent_of groups m ≡ Some p → depth_at groups p < depth_at groups m
parent_depth groups m p facts e =
    let w = parent_of-depth groups m p facts e in
    let low : depth_at groups m ≡ depth_of w.0 = ap (λ o. option_map_or (λ q. depth_of q) o 0) w.2 in
    let high : depth_at groups p ≡ depth_of w.1 = ap (λ o. option_map_or (λ q. depth_of q) o 0) w.3 in
    omega (arith, low, high, w.4)

-- the walk from g has reached m, and all groups below m on the path pass the test
pub record WalkedTo (groups : List Group) (test : ℕ → Bool) (g m : ℕ) : Type 0 where
  pub on_path : in_subtree groups m g ≡ true
  pub passed : (k : ℕ) → in_subtree groups k g ≡ true → (test k ≡ true) ⊎ (in_subtree groups k m ≡ true)

-- if m passes, the walk continues at its parent
pub walked_up : (groups : List Group) (test : ℕ → Bool) (g m p : ℕ) → AreGroups groups → WalkedTo groups test g m → test m ≡ true →
    parent_of groups m ≡ Some p → WalkedTo groups test g p
walked_up groups test g m p facts w passes e = record {
  on_path = in_subtree-trans groups p m g (in_subtree-parent_of groups m p facts e) w.on_path;
  passed = λ k h.
      ⊎_elim (λ r. inl r)
      (λ above. ⊎_elim
      (λ same. inl (ap test same ∙ passes))
      (λ up. inr up)
      (in_subtree-above_parent groups k m p facts e above))
      (w.passed k h);
}

-- if the root passes, the whole path passes
pub walked_all : (groups : List Group) (test : ℕ → Bool) (g m : ℕ) → AreGroups groups → WalkedTo groups test g m → test m ≡ true → m ≡ 0 → (k : ℕ) →
    in_subtree groups k g ≡ true → test k ≡ true
walked_all groups test g m facts w passes root k h =
    ⊎_elim (λ r. r)
    (λ above.
    let up : in_subtree groups k 0 ≡ true = ap (in_subtree groups k) (sym root) ∙ above in
    let down : in_subtree groups 0 k ≡ true = in_subtree-root groups k facts (in_subtree-above groups k 0 up) in
    ap test (in_subtree-antisym groups k 0 facts up down ∙ sym root) ∙ passes)
    (w.passed k h)

-- if m fails, each other group of the path that fails is an ancestor of m
pub walked_lowest : (groups : List Group) (test : ℕ → Bool) (g m : ℕ) → WalkedTo groups test g m → (k : ℕ) → in_subtree groups k g ≡ true →
    test k ≡ false → in_subtree groups k m ≡ true
walked_lowest groups test g m w k h fails = ⊎_elim (λ r. absurd (both_ways (test k) fails r)) (λ above. above) (w.passed k h)

-- ---- the same walk, as a loop over `Tree::ancestors` makes it
-- k is the walk's next group, or an ancestor of it
abbrev pub IsAhead : List Group → ℕ → Option ℕ → Type 0
IsAhead groups k None = ⊥
IsAhead groups k (Some m) = in_subtree groups k m ≡ true

-- these are left of the walk from g, and all groups of the path below them pass the test
pub record WalkLeft (groups : List Group) (test : ℕ → Bool) (g : ℕ) (left : List ℕ) : Type 0 where
  pub next : Option ℕ
  pub left_is : left ≡ ancestors_from groups next
  pub on_path : (m : ℕ) → next ≡ Some m → in_subtree groups m g ≡ true
  pub passed : (k : ℕ) → in_subtree groups k g ≡ true → (test k ≡ true) ⊎ IsAhead groups k next

-- at first all is left
pub left_start : (groups : List Group) (test : ℕ → Bool) (g : ℕ) (left : List ℕ) → has_group groups g ≡ true → left ≡ ancestors_of groups g →
    WalkLeft groups test g left
left_start groups test g left there e = record {
  next = Some g;
  left_is = e;
  on_path = λ m same. subst (λ k. in_subtree groups k g ≡ true) (same_Some g m same) (in_subtree-refl groups g there);
  passed = λ k h. inr h;
}

-- the group that the walk has reached is next, followed by its parent
pub record TurnAt (groups : List Group) (test : ℕ → Bool) (g m : ℕ) (rest : List ℕ) : Type 0 where
  pub walked : WalkedTo groups test g m
  pub there : has_group groups m ≡ true
  pub rest_is : rest ≡ ancestors_from groups (parent_of groups m)

turn_from : (groups : List Group) (test : ℕ → Bool) (g m : ℕ) (left rest : List ℕ) (o : Option ℕ) → AreGroups groups →
    left ≡ ancestors_from groups o → ((k : ℕ) → o ≡ Some k → in_subtree groups k g ≡ true) →
    ((k : ℕ) → in_subtree groups k g ≡ true → (test k ≡ true) ⊎ IsAhead groups k o) → left ≡ m ∷ rest → TurnAt groups test g m rest
turn_from groups test g m left rest None facts is on passed e = absurd (let bad : m ∷ rest ≡ [] = sym e ∙ is in cc)
turn_from groups test g m left rest (Some k) facts is on passed e =
    let there : has_group groups k ≡ true = in_subtree-above groups k g (on k refl) in
    let both : m ∷ rest ≡ k ∷ ancestors_from groups (parent_of groups k) = sym e ∙ is ∙ ancestors_of-step groups k facts there in
    let same : k ≡ m = cc in
    let others : rest ≡ ancestors_from groups (parent_of groups k) = cc in
    record {
      walked = subst (WalkedTo groups test g) same (record { on_path = on k refl; passed = passed });
      there = subst (λ j. has_group groups j ≡ true) same there;
      rest_is = others ∙ ap (λ j. ancestors_from groups (parent_of groups j)) same;
    }

pub left_turn : (groups : List Group) (test : ℕ → Bool) (g m : ℕ) (left rest : List ℕ) → AreGroups groups → WalkLeft groups test g left →
    left ≡ m ∷ rest → TurnAt groups test g m rest
left_turn groups test g m left rest facts w e = turn_from groups test g m left rest w.next facts w.left_is w.on_path w.passed e

-- if it passes, the walk continues
on_from : (groups : List Group) (test : ℕ → Bool) (g m : ℕ) (rest : List ℕ) (o : Option ℕ) → AreGroups groups → TurnAt groups test g m rest →
    test m ≡ true → parent_of groups m ≡ o → WalkLeft groups test g rest
on_from groups test g m rest None facts turn passes e = record {
  next = None;
  left_is = turn.rest_is ∙ ap (ancestors_from groups) e;
  on_path = λ k same. absurd (none-some k same);
  passed = λ k h. inl (walked_all groups test g m facts turn.walked passes (parent_of-none_root groups m facts turn.there e) k h);
}
on_from groups test g m rest (Some p) facts turn passes e =
    let up = walked_up groups test g m p facts turn.walked passes e in
    record {
      next = Some p;
      left_is = turn.rest_is ∙ ap (ancestors_from groups) e;
      on_path = λ k same. subst (λ j. in_subtree groups j g ≡ true) (same_Some p k same) up.on_path;
      passed = up.passed;
    }

pub left_on : (groups : List Group) (test : ℕ → Bool) (g m : ℕ) (rest : List ℕ) → AreGroups groups → TurnAt groups test g m rest → test m ≡ true →
    WalkLeft groups test g rest
left_on groups test g m rest facts turn passes = on_from groups test g m rest (parent_of groups m) facts turn passes refl

-- at the end all groups of the path have passed
end_from : (groups : List Group) (test : ℕ → Bool) (g : ℕ) (o : Option ℕ) → AreGroups groups → ancestors_from groups o ≡ [] →
    ((m : ℕ) → o ≡ Some m → in_subtree groups m g ≡ true) → ((k : ℕ) → in_subtree groups k g ≡ true → (test k ≡ true) ⊎ IsAhead groups k o) →
    (k : ℕ) → in_subtree groups k g ≡ true → test k ≡ true
end_from groups test g None facts e on passed k h = ⊎_elim (λ t. t) (λ bad. absurd bad) (passed k h)
end_from groups test g (Some m) facts e on passed k h =
    let both : m ∷ ancestors_from groups (parent_of groups m) ≡ [] = sym (ancestors_of-step groups m facts (in_subtree-above groups m g (on m refl))) ∙ e in
    absurd (cc)

pub left_end : (groups : List Group) (test : ℕ → Bool) (g : ℕ) (left : List ℕ) → AreGroups groups → WalkLeft groups test g left → left ≡ [] →
    (k : ℕ) → in_subtree groups k g ≡ true → test k ≡ true
left_end groups test g left facts w e = end_from groups test g w.next facts (sym w.left_is ∙ e) w.on_path w.passed

-- ---- the same walk, with its next group
-- the next group of the walk from g is `next`, these are left of it, and all groups of the path below them pass the
-- test
pub record WalkAt (groups : List Group) (test : ℕ → Bool) (g : ℕ) (next : Option ℕ) (left : List ℕ) : Type 0 where
  pub left_is : left ≡ ancestors_from groups next
  pub on_path : (m : ℕ) → next ≡ Some m → in_subtree groups m g ≡ true
  pub passed : (k : ℕ) → in_subtree groups k g ≡ true → (test k ≡ true) ⊎ IsAhead groups k next

pub at_start : (groups : List Group) (test : ℕ → Bool) (g : ℕ) (left : List ℕ) → has_group groups g ≡ true → left ≡ ancestors_of groups g →
    WalkAt groups test g (Some g) left
at_start groups test g left there e = record {
  left_is = e;
  on_path = λ m same. subst (λ k. in_subtree groups k g ≡ true) (same_Some g m same) (in_subtree-refl groups g there);
  passed = λ k h. inr h;
}

pub at_turn : (groups : List Group) (test : ℕ → Bool) (g m : ℕ) (next : Option ℕ) (left rest : List ℕ) → AreGroups groups →
    WalkAt groups test g next left → left ≡ m ∷ rest → TurnAt groups test g m rest
at_turn groups test g m next left rest facts w e = turn_from groups test g m left rest next facts w.left_is w.on_path w.passed e

-- if something is left, its first group is the walk's next
next_from : (groups : List Group) (g m : ℕ) (left rest : List ℕ) (o : Option ℕ) → AreGroups groups → left ≡ ancestors_from groups o →
    ((k : ℕ) → o ≡ Some k → in_subtree groups k g ≡ true) → left ≡ m ∷ rest → o ≡ Some m
next_from groups g m left rest None facts is on e = absurd (let bad : m ∷ rest ≡ [] = sym e ∙ is in cc)
next_from groups g m left rest (Some k) facts is on e =
    let both : m ∷ rest ≡ k ∷ ancestors_from groups (parent_of groups k) = sym e ∙ is
    ∙ ancestors_of-step groups k facts (in_subtree-above groups k g (on k refl)) in
    let same : k ≡ m = cc in
    ap Some same

pub at_next : (groups : List Group) (test : ℕ → Bool) (g m : ℕ) (next : Option ℕ) (left rest : List ℕ) → AreGroups groups →
    WalkAt groups test g next left → left ≡ m ∷ rest → next ≡ Some m
at_next groups test g m next left rest facts w e = next_from groups g m left rest next facts w.left_is w.on_path e

pub at_on : (groups : List Group) (test : ℕ → Bool) (g m : ℕ) (rest : List ℕ) → AreGroups groups → TurnAt groups test g m rest → test m ≡ true →
    WalkAt groups test g (parent_of groups m) rest
at_on groups test g m rest facts turn passes = at_from (parent_of groups m) refl
  where
    at_from : (o : Option ℕ) → parent_of groups m ≡ o → WalkAt groups test g o rest
    at_from None e = record {
      left_is = turn.rest_is ∙ ap (ancestors_from groups) e;
      on_path = λ k same. absurd (none-some k same);
      passed = λ k h. inl (walked_all groups test g m facts turn.walked passes (parent_of-none_root groups m facts turn.there e) k h);
    }
    at_from (Some p) e =
        let up = walked_up groups test g m p facts turn.walked passes e in
        record {
          left_is = turn.rest_is ∙ ap (ancestors_from groups) e;
          on_path = λ k same. subst (λ j. in_subtree groups j g ≡ true) (same_Some p k same) up.on_path;
          passed = up.passed;
        }

-- a walk of which nothing is left is over
pub at_end : (groups : List Group) (test : ℕ → Bool) (g : ℕ) (next : Option ℕ) (left : List ℕ) → AreGroups groups → WalkAt groups test g next left →
    left ≡ [] → next ≡ None
at_end groups test g next left facts w e = over next (sym w.left_is ∙ e) w.on_path
  where
    over : (o : Option ℕ) → ancestors_from groups o ≡ [] → ((m : ℕ) → o ≡ Some m → in_subtree groups m g ≡ true) → o ≡ None
    over None h on = refl
    over (Some m) h on =
        let both : m ∷ ancestors_from groups (parent_of groups m) ≡ [] = sym (ancestors_of-step groups m facts (in_subtree-above groups m g (on m refl))) ∙ h in
        absurd (cc)

pub at_end_passed : (groups : List Group) (test : ℕ → Bool) (g : ℕ) (next : Option ℕ) (left : List ℕ) → AreGroups groups →
    WalkAt groups test g next left → left ≡ [] → (k : ℕ) → in_subtree groups k g ≡ true → test k ≡ true
at_end_passed groups test g next left facts w e = end_from groups test g next facts (sym w.left_is ∙ e) w.on_path w.passed

-- ---- the groups that the walk has passed
-- at first, none
pub passed_none : (groups : List Group) (g k : ℕ) → is_passed groups g (Some g) k ≡ false
passed_none groups g k =
    ⊎_elim
    (λ t. rw t refl)
    (λ f. rw f refl)
    (cases_Bool (in_subtree groups k g))

-- at the end, the whole path
pub passed_all : (groups : List Group) (g k : ℕ) → is_passed groups g None k ≡ in_subtree groups k g
passed_all groups g k =
    ⊎_elim
    (λ t. rw t refl)
    (λ f. rw f refl)
    (cases_Bool (in_subtree groups k g))

-- the next group was not passed
pub passed_here : (groups : List Group) (g m : ℕ) → has_group groups m ≡ true → is_passed groups g (Some m) m ≡ false
passed_here groups g m there =
    ⊎_elim
    (λ t. ap (λ b. b && not (in_subtree groups m m)) t ∙ ap not (in_subtree-refl groups m there))
    (λ f. ap (λ b. b && not (in_subtree groups m m)) f)
    (cases_Bool (in_subtree groups m g))

-- it is passed after its turn
ahead_of_own_parent : (groups : List Group) (m : ℕ) (o : Option ℕ) → AreGroups groups → parent_of groups m ≡ o → is_in_subtree groups m o ≡ false
ahead_of_own_parent groups m None facts e = refl
ahead_of_own_parent groups m (Some p) facts e =
    false_from_ne_true (in_subtree groups m p) (λ t.
    let same : m ≡ p = in_subtree-antisym groups m p facts t (in_subtree-parent_of groups m p facts e) in
    let lower = parent_depth groups m p facts e in
    let equal : depth_at groups m ≡ depth_at groups p = ap (depth_at groups) same in
    absurd (omega arith))

pub passed_on : (groups : List Group) (g m : ℕ) → AreGroups groups → in_subtree groups m g ≡ true → is_passed groups g (parent_of groups m) m ≡ true
passed_on groups g m facts on = rw (on, ahead_of_own_parent groups m (parent_of groups m) facts refl) refl

-- and no other group is
ahead_others : (groups : List Group) (m k : ℕ) (o : Option ℕ) → AreGroups groups → has_group groups m ≡ true → parent_of groups m ≡ o → k ≢ m →
    in_subtree groups k m ≡ is_in_subtree groups k o
ahead_others groups m k None facts there e other =
    false_from_ne_true (in_subtree groups k m) (λ t.
    let root : m ≡ 0 = parent_of-none_root groups m facts there e in
    let up : in_subtree groups k 0 ≡ true = ap (in_subtree groups k) (sym root) ∙ t in
    other (in_subtree-antisym groups k 0 facts up (in_subtree-root groups k facts (in_subtree-above groups k 0 up)) ∙ sym root))
ahead_others groups m k (Some p) facts there e other =
    ⊎_elim
    (λ t. ⊎_elim
    (λ same. absurd (other same))
    (λ up. t ∙ sym up)
    (in_subtree-above_parent groups k m p facts e t))
    (λ f. f ∙ sym (false_from_ne_true (in_subtree groups k p)
    (λ up. both_ways (in_subtree groups k m) f (in_subtree-trans groups k p m up (in_subtree-parent_of groups m p facts e)))))
    (cases_Bool (in_subtree groups k m))

pub passed_other : (groups : List Group) (g m k : ℕ) → AreGroups groups → has_group groups m ≡ true → k ≢ m →
    is_passed groups g (Some m) k ≡ is_passed groups g (parent_of groups m) k
passed_other groups g m k facts there other =
    ap (λ b. in_subtree groups k g && not b) (ahead_others groups m k (parent_of groups m) facts there refl other)
