-- A descendant is deeper. Serves `is_at_or_below`.
use Rattle.std.proofs.Common.{◌≡◌, ◌≢◌, ℕ, zero, suc, ◌<◌, ◌≤◌, ◌⊎◌, inl, inr, ⊎_elim, List, Option, Some, None, true, false, IsTrue, refl, sym, ap, ◌∙◌, arith}
use Rattle.std.proofs.lemmas.Bool.{cases_Bool, false_from_ne_true, false≢true}
use Rattle.group_tree.specs.declared.group.Group.{Group}
use Rattle.group_tree.specs.{depth_at, AreGroups, has_group, in_subtree, parent_of}
use Rattle.group_tree.proofs.AncestorLemmas.{parent-depth_at, parent_of-none_root}
use Rattle.group_tree.proofs.CallerLemmas.{in_subtree-above, in_subtree-above_parent, in_subtree-antisym, in_subtree-below, in_subtree-parent_of, in_subtree-refl, in_subtree-root, in_subtree-trans}

-- by the walk up from the lower group
deeper_from : (groups : List Group) (k g h : ℕ) (up : Option ℕ) → AreGroups groups → in_subtree groups g h ≡ true
    → depth_at groups h ≡ k → parent_of groups h ≡ up → (g ≡ h) ⊎ (depth_at groups g < depth_at groups h)
deeper_from groups k g h None facts below depth e =
    let root = parent_of-none_root groups h facts (in_subtree-below groups g h below) e in
    let above : in_subtree groups h g ≡ true =
    ap (λ (x : ℕ). in_subtree groups x g) root ∙ in_subtree-root groups g facts (in_subtree-above groups g h below) in
    inl (in_subtree-antisym groups g h facts below above)
deeper_from groups zero g h (Some p) facts below depth e =
    let d = parent-depth_at groups h p facts e in
    absurd (omega (arith, d, depth))
deeper_from groups (suc k) g h (Some p) facts below depth e =
    let d = parent-depth_at groups h p facts e in
    let low : depth_at groups p ≡ k = omega (arith, d, depth) in
    ⊎_elim
    (λ same. inl same)
    (λ above. ⊎_elim
    (λ same.
    let equal : depth_at groups g ≡ depth_at groups p = ap (depth_at groups) same in
    inr (omega (arith, d, equal)))
    (λ less. inr (omega (arith, d, less)))
    (deeper_from groups k g p (parent_of groups p) facts above low refl))
    (in_subtree-above_parent groups g h p facts e below)

-- another group that is no deeper isn't below
pub not_below : (groups : List Group) (g h : ℕ) → AreGroups groups → h ≢ g → depth_at groups h ≤ depth_at groups g
    → in_subtree groups g h ≡ false
not_below groups g h facts other shallow = false_from_ne_true (in_subtree groups g h) (λ below.
    ⊎_elim
    (λ same. other (sym same))
    (λ less. absurd (omega (arith, shallow, less)))
    (deeper_from groups (depth_at groups h) g h (parent_of groups h) facts below refl refl))

-- nor is the root
pub root_not_below : (groups : List Group) (g h : ℕ) → AreGroups groups → IsTrue (has_group groups g) → IsTrue (has_group groups h) → h ≢ g
    → parent_of groups h ≡ None → in_subtree groups g h ≡ false
root_not_below groups g h facts there here other none = false_from_ne_true (in_subtree groups g h) (λ below.
    let above : in_subtree groups h g ≡ true = ap (λ (x : ℕ). in_subtree groups x g) (parent_of-none_root groups h facts here none) ∙ in_subtree-root groups g facts there in
    other (in_subtree-antisym groups h g facts above below))

-- another group is below if its parent is
pub parent_below : (groups : List Group) (g h p : ℕ) → AreGroups groups → h ≢ g → parent_of groups h ≡ Some p → in_subtree groups g p ≡ in_subtree groups g h
parent_below groups g h p facts other e = elim (cases_Bool (in_subtree groups g p)) [
  | inl is ↦ is ∙ sym (in_subtree-trans groups g p h is (in_subtree-parent_of groups h p facts e))
  | inr not ↦ not ∙ sym (false_from_ne_true (in_subtree groups g h) (λ below. ⊎_elim (λ same. other (sym same)) (λ is. false≢true (sym not ∙ is))
      (in_subtree-above_parent groups g h p facts e below)))
]

-- a group is in its own subtree
pub below_itself : (groups : List Group) (g h : ℕ) → IsTrue (has_group groups g) → h ≡ g → in_subtree groups g h ≡ true
below_itself groups g h there same = ap (in_subtree groups g) same ∙ in_subtree-refl groups g there
