-- What memory.min keeps. Serves the laws and crates above.
use Rattle.std.proofs.Common.{◌≡◌, ◌≢◌, ℕ, zero, suc, ◌<◌, ◌≤◌, inl, inr, true, Option, Some, None, List, refl, sym, ap, ◌∙◌, subst, arith}
use Rattle.std.proofs.lemmas.Bool.{cases_eq}
use Rattle.group_tree.specs.declared.group.Group.{Group}
use Rattle.group_tree.specs.Ancestors.{depth_at}
use Rattle.group_tree.specs.Groups.{AreGroups, in_subtree, parent_of}
use Rattle.group_tree.proofs.AncestorLemmas.{parent_of-none_root}
use Rattle.group_tree.proofs.CallerLemmas.{in_subtree-above, in_subtree-above_parent, in_subtree-antisym, in_subtree-below, in_subtree-parent_of, in_subtree-refl, in_subtree-root, in_subtree-trans}
use Rattle.group_tree.proofs.Walks.{parent_depth}
use Rattle.group_charge.specs.Charges.{Ledger, current_of}
use Rattle.group_protection.specs.declared.protecting.Key.TheVariants.{Min}
use Rattle.group_protection.specs.Protections.{IsKeptByMin, UsageAboveEachMinIsNotKept, effective, setting}
use Rattle.group_protection.proofs.Effective.{effective-bounded, effective-target, effective-unset, same_setting}

-- the group right below the target on the path of this group
pub record TopOf (groups : List Group) (target group : ℕ) : Type 0 where
  pub top : ℕ
  pub child : parent_of groups top ≡ Some target
  pub above : in_subtree groups top group ≡ true

module _ (groups : List Group) (facts : AreGroups groups) (target : ℕ) where
  top_step : (group : ℕ) (o : Option ℕ) → parent_of groups group ≡ o → in_subtree groups target group ≡ true → group ≢ target
      → ((p : ℕ) → depth_at groups p < depth_at groups group → in_subtree groups target p ≡ true → p ≢ target → TopOf groups target p) → TopOf groups target group
  top_step group None e below ne higher =
      let root = parent_of-none_root groups group facts (in_subtree-below groups target group below) e in
      let above = in_subtree-root groups target facts (in_subtree-above groups target group below) in
      absurd (ne (in_subtree-antisym groups group target facts (ap (λ (x : ℕ). in_subtree groups x target) root ∙ above) below))
  top_step group (Some p) e below ne higher = elim (cases_eq p target) [
    | inl at ↦ record { top = group; child = e ∙ ap Some at; above = in_subtree-refl groups group (in_subtree-below groups target group below) }
    | inr away ↦
        let inside : in_subtree groups target p ≡ true = elim (in_subtree-above_parent groups target group p facts e below) [ inl same ↦ absurd (ne (sym same)) | inr is ↦ is ] in
        let t = higher p (parent_depth groups group p facts e) inside away in
        record { top = t.top; child = t.child; above = in_subtree-trans groups t.top p group t.above (in_subtree-parent_of groups group p facts e) }
  ]

  top_at : (n group : ℕ) → depth_at groups group ≤ n → in_subtree groups target group ≡ true → group ≢ target → TopOf groups target group
  top_at zero group deep below ne = top_step group (parent_of groups group) refl below ne (λ p less b x. absurd (omega (arith, less, deep)))
  top_at (suc n) group deep below ne = top_step group (parent_of groups group) refl below ne (λ p less b x. top_at n p (omega (arith, less, deep)) b x)

  pub top_of : (group : ℕ) → in_subtree groups target group ≡ true → group ≢ target → TopOf groups target group
  top_of group below ne = top_at (depth_at groups group) group (omega arith) below ne

-- memory.min keeps a group that has no more pages than it protected when the group's turn began
pub kept_by_min : (before after : Ledger) (target group : ℕ) → after.groups ≡ before.groups → after.settings ≡ before.settings
    → ((other : ℕ) → current_of after other ≤ current_of before other)
    → effective Min before target group ≢ 0 → current_of after group ≤ effective Min before target group → IsKeptByMin before after target group
kept_by_min before after target group groups settings falls some few = record {
  turn = before;
  groups = groups;
  settings = settings;
  since = λ other. omega arith;
  until = falls;
  some = omega (arith, some);
  few = few;
}

-- it stays so while usages fall, and counted from before
pub kept_still : (first before after last : Ledger) (target group : ℕ) → last.groups ≡ after.groups → last.settings ≡ after.settings
    → ((other : ℕ) → current_of before other ≤ current_of first other) → ((other : ℕ) → current_of last other ≤ current_of after other)
    → IsKeptByMin before after target group → IsKeptByMin first last target group
kept_still first before after last target group groups settings fell falls kept = record {
  turn = kept.turn;
  groups = groups ∙ kept.groups;
  settings = settings ∙ kept.settings;
  since = λ other. let x = kept.since other in let y = fell other in omega (arith, x, y);
  until = λ other. let x = kept.until other in let y = falls other in omega (arith, x, y);
  some = kept.some;
  few = let x = kept.few in let y = falls group in omega (arith, x, y);
}

pub usage_above_each_min : UsageAboveEachMinIsNotKept
usage_above_each_min before after limited group facts below above kept = elim (cases_eq group limited) [
  | inl at ↦
      let z = ap (effective Min kept.turn limited) at ∙ effective-target Min kept.turn limited in
      let some = kept.some in
      omega (arith, z, some)
  | inr away ↦
      let t = top_of after.groups facts limited group below away in
      let facts' : AreGroups kept.turn.groups = subst (λ (l : List Group). AreGroups l) kept.groups facts in
      let bound = effective-bounded Min kept.turn limited facts' t.top (ap (λ (l : List Group). parent_of l t.top) (sym kept.groups) ∙ t.child) group
      (ap (λ (l : List Group). in_subtree l t.top group) (sym kept.groups) ∙ t.above) in
      let same = same_setting Min after kept.turn kept.settings t.top in
      let more = above t.top (record {
        below = in_subtree-parent_of after.groups t.top limited facts t.child;
        other = λ loop. let d = parent_depth after.groups t.top limited facts t.child in let e = ap (depth_at after.groups) loop in omega (arith, d, e);
        on_path = t.above;
      }) in
      let few = kept.few in
      omega (arith, bound, same, more, few)
]

-- memory.min protects nothing if no group has any
pub kept_some_min : (before after : Ledger) (limited group : ℕ) → ((other : ℕ) → setting Min after other ≡ 0) → ¬ IsKeptByMin before after limited group
kept_some_min before after limited group none kept =
    let unset = effective-unset Min kept.turn limited (λ other. sym (same_setting Min after kept.turn kept.settings other) ∙ none other) group in
    let some = kept.some in
    omega (arith, unset, some)
