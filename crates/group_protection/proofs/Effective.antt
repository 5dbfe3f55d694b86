-- Effective values along a path. Serves `effective`, `protection_of`, the laws, and crates above.
use Rattle.std.proofs.Common.{◌≡◌, ◌≢◌, ℕ, zero, suc, ◌+◌, ◌-◌, ◌*◌, ◌/◌, ◌^◌, ◌<◌, ◌≤◌, ◌==◌, ◌||◌, inl, inr, Bool, true, false, not, Option, Some, None, List, refl, sym, ap, ◌∙◌, arith, cond}
use Rattle.std.specs.Prelude.{length, min, nat_eq, nat_lt, nat_le, sum_by, unwrap_or}
use Rattle.std.specs.List.{slice_index_or}
use Rattle.std.specs.Option.{option_eq, option_map_or}
use Rattle.std.proofs.lemmas.Bool.{cases_eq, cases_lt, cond-true, cond-false, eq-eqb, eqb-true, ne_eqb, false_from_ne_true, false≢true, true≢false}
use Rattle.std.proofs.lemmas.List.{get_or_past}
use Rattle.std.proofs.lemmas.List.Folds.{list_any_at}
use Rattle.std.proofs.lemmas.Option.{same_Some}
use Rattle.group_tree.specs.declared.group.Group.{Group}
use Rattle.group_tree.specs.Ancestors.{depth_at}
use Rattle.group_tree.specs.Path.{depth_of}
use Rattle.group_tree.specs.Groups.{AreGroups, in_subtree, parent_of}
use Rattle.group_tree.proofs.CallerLemmas.{in_subtree-above_parent, in_subtree-antisym, in_subtree-parent_of, parent_of-depth}
use Rattle.group_charge.specs.declared.settings.ReclaimSettings.{ReclaimSettings}
use Rattle.group_charge.specs.Charges.{Ledger, are_protecting, current_of, is_protecting, no_settings, settings_of}
use Rattle.group_protection.specs.declared.protecting.Key.TheVariants.{Min, Low}
use Rattle.group_protection.specs.declared.protecting.Key.{Key}
use Rattle.group_protection.specs.Protections.{claimed, effective, effective_within, protection_from, setting, share_of, used}

-- ---- one level

pub depth_next : (groups : List Group) (g p : ℕ) → AreGroups groups → parent_of groups g ≡ Some p → depth_at groups g ≡ suc (depth_at groups p)
depth_next groups g p facts up =
    let w = parent_of-depth groups g p facts up in
    let low : depth_at groups g ≡ depth_of w.0 = ap (λ o. option_map_or (λ path. depth_of path) o 0) w.2 in
    let high : depth_at groups p ≡ depth_of w.1 = ap (λ o. option_map_or (λ path. depth_of path) o 0) w.3 in
    omega (arith, low, high, w.4)

cond_low : (b : Bool) (x y m : ℕ) → x ≤ m → y ≤ m → cond b x y ≤ m
cond_low true x y m one two = one
cond_low false x y m one two = two

min_low : (a b : ℕ) → min a b ≤ b
min_low a b = omega arith

-- no child gets more than protects its parent
share_low : (protection claim usage own_use own_usage : ℕ) → share_of protection claim usage own_use own_usage ≤ protection
share_low p c u o w =
    cond_low (nat_lt p c) (min (o * p / c) p) (cond (nat_le u c || nat_le w o) (min o p) (min (o + (p - c) * (w - o) / (u - c)) p)) p (min_low (o * p / c) p)
    (cond_low (nat_le u c || nat_le w o) (min o p) (min (o + (p - c) * (w - o) / (u - c)) p) p (min_low o p) (min_low (o + (p - c) * (w - o) / (u - c)) p))

module _ (key : Key) (ledger : Ledger) (target : ℕ) where
  -- what a child gets of its parent
  abbrev share : (protects : ℕ → ℕ) (group parent : ℕ) → ℕ
  share protects group parent = share_of (protects parent) (claimed key ledger parent) (current_of ledger parent) (used key ledger group) (current_of ledger group)

  at_target : (protects : ℕ → ℕ) (o : Option ℕ) → protection_from key ledger target protects target o ≡ 0
  at_target protects None = refl
  at_target protects (Some p) = cond-true (target == target) 0 (cond (p == target) (setting key ledger target) (share protects target p)) (eq-eqb target target refl)

  pub effective-target : effective key ledger target target ≡ 0
  unfolding effective
  effective-target = by_levels (depth_at ledger.groups target)
    where
      by_levels : (n : ℕ) → effective_within n key ledger target target ≡ 0
      by_levels zero = refl
      by_levels (suc n) = at_target (effective_within n key ledger target) (parent_of ledger.groups target)

  pub effective-none : (group : ℕ) → parent_of ledger.groups group ≡ None → effective key ledger target group ≡ 0
  unfolding effective
  effective-none group none = by_levels (depth_at ledger.groups group)
    where
      by_levels : (n : ℕ) → effective_within n key ledger target group ≡ 0
      by_levels zero = refl
      by_levels (suc n) = ap (protection_from key ledger target (effective_within n key ledger target) group) none

  module _ (facts : AreGroups ledger.groups) where
    pub effective-child : (group parent : ℕ) → parent_of ledger.groups group ≡ Some parent
        → effective key ledger target group ≡ protection_from key ledger target (effective key ledger target) group (Some parent)
    unfolding effective
    effective-child group parent up =
        ap (λ levels. effective_within levels key ledger target group) (depth_next ledger.groups group parent facts up)
        ∙ ap (protection_from key ledger target (effective_within (depth_at ledger.groups parent) key ledger target) group) up

    pub passes_down : (group : ℕ) → effective key ledger target group ≡ protection_from key ledger target (effective key ledger target) group (parent_of ledger.groups group)
    passes_down group = by_parent (parent_of ledger.groups group) refl
      where
        by_parent : (o : Option ℕ) → parent_of ledger.groups group ≡ o → effective key ledger target group ≡ protection_from key ledger target (effective key ledger target) group o
        by_parent None none = effective-none group none
        by_parent (Some parent) up = effective-child group parent up

    module _ (group parent : ℕ) (other : group ≢ target) (up : parent_of ledger.groups group ≡ Some parent) where
      past_target : effective key ledger target group ≡ cond (parent == target) (setting key ledger group) (share (effective key ledger target) group parent)
      past_target =
          effective-child group parent up
          ∙ cond-false (group == target) 0 (cond (parent == target) (setting key ledger group) (share (effective key ledger target) group parent)) (ne_eqb group target other)

      -- right below the target
      pub effective-top : parent ≡ target → effective key ledger target group ≡ setting key ledger group
      effective-top at = past_target ∙ cond-true (parent == target) (setting key ledger group) (share (effective key ledger target) group parent) (eq-eqb parent target at)

      -- farther below
      pub effective-share : parent ≢ target → effective key ledger target group
          ≡ share_of (effective key ledger target parent) (claimed key ledger parent) (current_of ledger parent) (used key ledger group) (current_of ledger group)
      effective-share away = past_target ∙ cond-false (parent == target) (setting key ledger group) (share (effective key ledger target) group parent) (ne_eqb parent target away)

    -- ---- the bound

    module _ (top : ℕ) (child : parent_of ledger.groups top ≡ Some target) where
      -- no group has a parent with itself above
      no_loop : in_subtree ledger.groups top target ≡ true → ⊥
      no_loop above =
          let below = in_subtree-parent_of ledger.groups top target facts child in
          let same = ap (depth_at ledger.groups) (in_subtree-antisym ledger.groups top target facts above below) in
          let d = depth_next ledger.groups top target facts child in
          omega (arith, d, same)

      from_parent : (group parent : ℕ) → parent_of ledger.groups group ≡ Some parent → in_subtree ledger.groups top group ≡ true
          → (in_subtree ledger.groups top parent ≡ true → effective key ledger target parent ≤ setting key ledger top)
          → effective key ledger target group ≤ setting key ledger top
      from_parent group parent up above higher = elim (cases_eq group target) [
        | inl is ↦ absurd (no_loop (ap (in_subtree ledger.groups top) (sym is) ∙ above))
        | inr other ↦ elim (in_subtree-above_parent ledger.groups top group parent facts up above) [
          | inl same ↦
              let at : parent ≡ target = same_Some _ _ (sym up ∙ ap (parent_of ledger.groups) (sym same) ∙ child) in
              let e = effective-top group parent other up at in
              let s = ap (setting key ledger) same in
              omega (arith, e, s)
          | inr over ↦
              let e = effective-share group parent other up (λ at. no_loop (ap (in_subtree ledger.groups top) (sym at) ∙ over)) in
              let less = share_low (effective key ledger target parent) (claimed key ledger parent) (current_of ledger parent) (used key ledger group) (current_of ledger group) in
              let bound = higher over in
              omega (arith, e, less, bound)
        ]
      ]

      by_parent : (group : ℕ) (o : Option ℕ) → parent_of ledger.groups group ≡ o → in_subtree ledger.groups top group ≡ true
          → ((p : ℕ) → depth_at ledger.groups p < depth_at ledger.groups group → in_subtree ledger.groups top p ≡ true → effective key ledger target p ≤ setting key ledger top)
          → effective key ledger target group ≤ setting key ledger top
      by_parent group None none above higher = let e = effective-none group none in omega (arith, e)
      by_parent group (Some p) up above higher =
          let d = depth_next ledger.groups group p facts up in
          from_parent group p up above (λ over. higher p (omega (arith, d)) over)

      by_depth : (n group : ℕ) → depth_at ledger.groups group ≤ n → in_subtree ledger.groups top group ≡ true → effective key ledger target group ≤ setting key ledger top
      by_depth zero group deep above = by_parent group (parent_of ledger.groups group) refl above (λ p less over. absurd (omega (arith, less, deep)))
      by_depth (suc n) group deep above = by_parent group (parent_of ledger.groups group) refl above (λ p less over. by_depth n p (omega (arith, less, deep)) over)

      pub effective-bounded : (group : ℕ) → in_subtree ledger.groups top group ≡ true → effective key ledger target group ≤ setting key ledger top
      effective-bounded group above = by_depth (depth_at ledger.groups group) group (omega arith) above

-- ---- nothing set

is_some_of : (o : Option ℕ) (n : ℕ) → not (option_eq nat_eq o (Some n)) ≡ false → o ≡ Some n
is_some_of None n e = absurd (true≢false e)
is_some_of (Some k) n e = ap Some (eqb-true k n (turned (nat_eq k n) e))
  where
    turned : (b : Bool) → not b ≡ false → b ≡ true
    turned true e = refl
    turned false e = absurd (true≢false e)

both_off : (a b : Bool) → (a || b) ≡ false → (a ≡ false) × (b ≡ false)
both_off false b e = (refl, e)
both_off true b e = absurd (true≢false e)

nothing_of : (key : Key) (ledger : Ledger) (group : ℕ) → is_protecting (settings_of ledger group) ≡ false → setting key ledger group ≡ 0
nothing_of Min ledger group off = let both = both_off _ _ off in rw (is_some_of (settings_of ledger group).min 0 both.1) refl
nothing_of Low ledger group off = let both = both_off _ _ off in rw (is_some_of (settings_of ledger group).low 0 both.0) refl

setting_none : (key : Key) (ledger : Ledger) → are_protecting ledger.settings ≡ false → (group : ℕ) → setting key ledger group ≡ 0
setting_none key ledger off group = nothing_of key ledger group (elim (cases_lt group (length ledger.settings)) [
  | inl within ↦ false_from_ne_true (is_protecting (settings_of ledger group)) (λ on.
      false≢true (sym off ∙ list_any_at is_protecting ledger.settings group no_settings within on))
  | inr past ↦ ap is_protecting (get_or_past ledger.settings group no_settings past)
])

module _ (key : Key) (ledger : Ledger) (target : ℕ) (unset : (group : ℕ) → setting key ledger group ≡ 0) where
  from_none : (protects : ℕ → ℕ) → ((p : ℕ) → protects p ≡ 0) → (group : ℕ) (o : Option ℕ) → protection_from key ledger target protects group o ≡ 0
  from_none protects none group None = refl
  from_none protects none group (Some p) =
      let less = share_low (protects p) (claimed key ledger p) (current_of ledger p) (used key ledger group) (current_of ledger group) in
      let z = none p in
      let s = unset group in
      let inner = cond_low (p == target) (setting key ledger group) (share key ledger target protects group p) 0 (omega (arith, s)) (omega (arith, less, z)) in
      let outer = cond_low (group == target) 0 (cond (p == target) (setting key ledger group) (share key ledger target protects group p)) 0 (omega arith) inner in
      omega (arith, outer)

  within_none : (n group : ℕ) → effective_within n key ledger target group ≡ 0
  within_none zero group = refl
  within_none (suc n) group = from_none (effective_within n key ledger target) (within_none n) group (parent_of ledger.groups group)

  pub effective-unset : (group : ℕ) → effective key ledger target group ≡ 0
  unfolding effective
  effective-unset group = within_none (depth_at ledger.groups group) group

pub nothing_set : (key : Key) (ledger : Ledger) (target group : ℕ) → are_protecting ledger.settings ≡ false → effective key ledger target group ≡ 0
nothing_set key ledger target group off = effective-unset key ledger target (setting_none key ledger off) group

-- ---- ledgers with the same groups, settings and usages

pub same_setting : (key : Key) (a b : Ledger) → a.settings ≡ b.settings → (group : ℕ) → setting key a group ≡ setting key b group
same_setting Min a b same group = ap (λ (l : List ReclaimSettings). unwrap_or (slice_index_or l group no_settings).min (2 ^ 32 - 1)) same
same_setting Low a b same group = ap (λ (l : List ReclaimSettings). unwrap_or (slice_index_or l group no_settings).low (2 ^ 32 - 1)) same

module _ (key : Key) (a b : Ledger) (target : ℕ) (groups : a.groups ≡ b.groups) (settings : a.settings ≡ b.settings)
    (usages : (group : ℕ) → current_of a group ≡ current_of b group) where
  same_from : (p q : ℕ → ℕ) → ((group : ℕ) → p group ≡ q group) → (group : ℕ) (o : Option ℕ)
      → protection_from key a target p group o ≡ protection_from key b target q group o
  same_from p q same group None = refl
  same_from p q same group (Some parent) = λ i.
      cond (group == target) 0 (cond (parent == target) (same_setting key a b settings group i) (share_of (same parent i)
      (sum_by (λ (g : Group). cond (option_eq nat_eq (parent_of (groups i) g.number) (Some parent)) (min (usages g.number i) (same_setting key a b settings g.number i)) 0) (groups i))
      (usages parent i) (min (usages group i) (same_setting key a b settings group i)) (usages group i)))

  same_within : (levels group : ℕ) → effective_within levels key a target group ≡ effective_within levels key b target group
  same_within zero group = refl
  same_within (suc levels) group =
      ap (protection_from key a target (effective_within levels key a target) group) (ap (λ (l : List Group). parent_of l group) groups)
      ∙ same_from (effective_within levels key a target) (effective_within levels key b target) (same_within levels) group (parent_of b.groups group)

  pub effective-same : (group : ℕ) → effective key a target group ≡ effective key b target group
  unfolding effective
  effective-same group =
      ap (λ (l : List Group). effective_within (depth_at l group) key a target group) groups ∙ same_within (depth_at b.groups group) group
