-- The walk from a group up to the root. Serves the contracts of `Tree::ancestors` and of the walk itself.
use Rattle.std.proofs.Common.{◌≡◌, ℕ, zero, suc, ◌+◌, ◌==◌, ◌||◌, Bool, true, false, IsTrue, IfSome, Option, Some, None, List, [], ◌∷◌, slice_get, refl, sym}
use Rattle.std.proofs.Common.{ap, ◌∙◌, subst, arith, ⊎_elim, add-one}
use Rattle.std.specs.Option.{option_map_or}
use Rattle.std.specs.List.{list_any}
use Rattle.std.proofs.lemmas.Bool.{cases_Bool, cases_eq, eq-eqb, ne_eqb, false_from_ne_true, true≢false}
use Rattle.std.proofs.lemmas.Option.{none-some}
use Rattle.group_tree.specs.declared.group.Group.{Group}
use Rattle.group_tree.specs.Path.{depth_of, names_of}
use Rattle.group_tree.specs.Groups.{has_group, in_subtree, parent_of, AreGroups}
use Rattle.group_tree.specs.Ancestors.{depth_at, some_above, ancestors_of, ancestors_from, is_there, IsPathUp}
use Rattle.group_tree.proofs.GroupLemmas.{parent_of-below, parent-there, some_is}
use Rattle.group_tree.proofs.CallerLemmas.{parent_of-depth, path_of-there, root_path_of, in_subtree-above, in_subtree-parent_of, in_subtree-refl}
use Rattle.group_tree.proofs.CallerLemmas.{in_subtree-trans, in_subtree-root, in_subtree-antisym, in_subtree-above_parent}

-- the root's path has no name
root_depth : (groups : List Group) → AreGroups groups → depth_at groups 0 ≡ 0
unfolding names_of
root_depth groups facts = ap (λ o. option_map_or (λ q. depth_of q) o 0) (root_path_of groups facts)

-- a parent's path has one name less
pub parent-depth_at : (groups : List Group) (g p : ℕ) → AreGroups groups → parent_of groups g ≡ Some p → depth_at groups g ≡ suc (depth_at groups p)
parent-depth_at groups g p facts e =
    let w = parent_of-depth groups g p facts e in
    ap (λ o. option_map_or (λ q. depth_of q) o 0) w.2 ∙ w.4 ∙ add-one _ ∙ ap suc (sym (ap (λ o. option_map_or (λ q. depth_of q) o 0) w.3))

-- only the root has no parent
pub parent_of-none_root : (groups : List Group) (g : ℕ) → AreGroups groups → IsTrue (has_group groups g) → parent_of groups g ≡ None → g ≡ 0
parent_of-none_root groups g facts there none =
    ⊎_elim (λ zero. zero)
    (λ other.
    let w = path_of-there groups g there in
    let s = some_is _ (parent-there groups g w.0 facts w.1) in
    absurd (none-some s.0 (sym none ∙ parent_of-below groups g w.0 other w.1 ∙ s.1)))
    (cases_eq g 0)

-- the parent of a group exists
pub parent_of-there : (groups : List Group) (g p : ℕ) → AreGroups groups → parent_of groups g ≡ Some p → IsTrue (has_group groups p)
parent_of-there groups g p facts e = in_subtree-above groups p g (in_subtree-parent_of groups g p facts e)

-- a walk begins at its group, then continues at the parent
step_to : (groups : List Group) (g : ℕ) (o : Option ℕ) → AreGroups groups → IsTrue (has_group groups g) → parent_of groups g ≡ o →
    ancestors_of groups g ≡ g ∷ ancestors_from groups o
unfolding ancestors_of
step_to groups g None facts there e =
    let root = parent_of-none_root groups g facts there e in
    ap (λ k. some_above k groups g) (ap (depth_at groups) root ∙ root_depth groups facts)
step_to groups g (Some p) facts there e =
    ap (λ k. some_above k groups g) (parent-depth_at groups g p facts e) ∙ ap (λ o. g ∷ option_map_or (some_above (depth_at groups p) groups) o []) e

pub ancestors_of-step : (groups : List Group) (g : ℕ) → AreGroups groups → IsTrue (has_group groups g) →
    ancestors_of groups g ≡ g ∷ ancestors_from groups (parent_of groups g)
ancestors_of-step groups g facts there = step_to groups g (parent_of groups g) facts there refl

-- the next group of a walk exists
there_at : (groups : List Group) (g : ℕ) (o : Option ℕ) → AreGroups groups → parent_of groups g ≡ o → IsTrue (is_there groups o)
there_at groups g None facts e = refl
there_at groups g (Some p) facts e = parent_of-there groups g p facts e

pub parent-is_there : (groups : List Group) (g : ℕ) → AreGroups groups → IsTrue (is_there groups (parent_of groups g))
parent-is_there groups g facts = there_at groups g (parent_of groups g) facts refl

-- ---- the walk is the path up
path_alone : (groups : List Group) (g : ℕ) → parent_of groups g ≡ None → IsPathUp groups g (g ∷ [])
path_alone groups g none = record { first = refl; rises = rises }
  where
    rises : (k : ℕ) → IfSome (slice_get (g ∷ []) k) (λ m. slice_get (g ∷ []) (k + 1) ≡ parent_of groups m)
    rises zero = sym none
    rises (suc k) = tt

path_more : (groups : List Group) (g p : ℕ) (path : List ℕ) → parent_of groups g ≡ Some p → IsPathUp groups p path → IsPathUp groups g (g ∷ path)
path_more groups g p path up below = record { first = refl; rises = rises }
  where
    rises : (k : ℕ) → IfSome (slice_get (g ∷ path) k) (λ m. slice_get (g ∷ path) (k + 1) ≡ parent_of groups m)
    rises zero = below.first ∙ sym up
    rises (suc k) =
        let e : suc k + 1 ≡ suc (k + 1) = omega arith in
        subst (λ n. IfSome (slice_get path k) (λ m. slice_get (g ∷ path) n ≡ parent_of groups m)) (sym e) (below.rises k)

path_from : (groups : List Group) (k g : ℕ) (o : Option ℕ) → AreGroups groups → IsTrue (has_group groups g) → depth_at groups g ≡ k →
    parent_of groups g ≡ o → IsPathUp groups g (ancestors_of groups g)
path_from groups k g None facts there depth e = subst (IsPathUp groups g) (sym (step_to groups g None facts there e)) (path_alone groups g e)
path_from groups zero g (Some p) facts there depth e = absurd (let h = parent-depth_at groups g p facts e in omega arith)
path_from groups (suc k) g (Some p) facts there depth e =
    let h : suc (depth_at groups p) ≡ suc k = sym (parent-depth_at groups g p facts e) ∙ depth in
    let low : depth_at groups p ≡ k = omega arith in
    subst (IsPathUp groups g) (sym (step_to groups g (Some p) facts there e))
    (path_more groups g p (ancestors_of groups p) e (path_from groups k p (parent_of groups p) facts (parent_of-there groups g p facts e) low refl))

pub ancestors_of-path : (groups : List Group) (g : ℕ) → AreGroups groups → IsTrue (has_group groups g) → IsPathUp groups g (ancestors_of groups g)
ancestors_of-path groups g facts there = path_from groups (depth_at groups g) g (parent_of groups g) facts there refl refl

-- ---- the walk passes the groups whose subtrees have its first group
-- the root lies in no other's subtree
at_root : (groups : List Group) (g h : ℕ) → AreGroups groups → IsTrue (has_group groups h) → h ≡ 0 → (h == g) ≡ in_subtree groups g h
at_root groups g h facts there root =
    ⊎_elim
    (λ same. eq-eqb h g same ∙ sym (ap (λ k. in_subtree groups k h) (sym same) ∙ in_subtree-refl groups h there))
    (λ other. ne_eqb h g other ∙ sym (false_from_ne_true (in_subtree groups g h) (λ t.
    other (in_subtree-antisym groups h g facts
    (ap (λ k. in_subtree groups k g) root ∙ in_subtree-root groups g facts (in_subtree-above groups g h t)) t))))
    (cases_eq h g)

-- below the root, a group lies in its own subtree and in those in which its parent lies
one_up : (groups : List Group) (g h p : ℕ) → AreGroups groups → IsTrue (has_group groups h) → parent_of groups h ≡ Some p →
    ((h == g) || in_subtree groups g p) ≡ in_subtree groups g h
one_up groups g h p facts there up =
    ⊎_elim
    (λ same. ap (λ b. b || in_subtree groups g p) (eq-eqb h g same) ∙ sym (ap (λ k. in_subtree groups k h) (sym same) ∙ in_subtree-refl groups h there))
    (λ other. ap (λ b. b || in_subtree groups g p) (ne_eqb h g other) ∙ ⊎_elim
    (λ t. t ∙ sym (in_subtree-trans groups g p h t (in_subtree-parent_of groups h p facts up)))
    (λ f. f ∙ sym (false_from_ne_true (in_subtree groups g h) (λ t. ⊎_elim
    (λ same. other (sym same))
    (λ above. absurd (true≢false (sym above ∙ f)))
    (in_subtree-above_parent groups g h p facts up t))))
    (cases_Bool (in_subtree groups g p)))
    (cases_eq h g)

or_none : (b : Bool) → (b || false) ≡ b
or_none true = refl
or_none false = refl

passes_from : (groups : List Group) (k g h : ℕ) (o : Option ℕ) → AreGroups groups → IsTrue (has_group groups h) → depth_at groups h ≡ k →
    parent_of groups h ≡ o → list_any (λ m. m == g) (ancestors_of groups h) ≡ in_subtree groups g h
passes_from groups k g h None facts there depth e =
    ap (list_any (λ m. m == g)) (step_to groups h None facts there e) ∙ or_none (h == g)
    ∙ at_root groups g h facts there (parent_of-none_root groups h facts there e)
passes_from groups zero g h (Some p) facts there depth e = absurd (let d = parent-depth_at groups h p facts e in omega arith)
passes_from groups (suc k) g h (Some p) facts there depth e =
    let d : suc (depth_at groups p) ≡ suc k = sym (parent-depth_at groups h p facts e) ∙ depth in
    let low : depth_at groups p ≡ k = omega arith in
    ap (list_any (λ m. m == g)) (step_to groups h (Some p) facts there e)
    ∙ ap (λ b. (h == g) || b) (passes_from groups k g p (parent_of groups p) facts (parent_of-there groups h p facts e) low refl)
    ∙ one_up groups g h p facts there e

-- a group is on the walk up from another exactly if that one is in its subtree
pub ancestors_of-subtree : (groups : List Group) (g h : ℕ) → AreGroups groups → IsTrue (has_group groups h) →
    list_any (λ m. m == g) (ancestors_of groups h) ≡ in_subtree groups g h
ancestors_of-subtree groups g h facts there = passes_from groups (depth_at groups h) g h (parent_of groups h) facts there refl refl
