-- The shown state that keeps the promise, and those that break it.
use Rattle.std.proofs.Common.{◌≡◌, ℕ, ◌*◌, ◌^◌, ◌<◌, ◌==◌, Bool, true, false, Option, Some, None, is_some, List, [], ◌∷◌, length, refl, sym, ◌∙◌, ap, subst, arith, inl, inr, zero, suc}
use Rattle.std.specs.List.{slice_index_or}
use Rattle.std.proofs.lemmas.Bool.{cases_eq, ne_eqb, true≢false, false≢true}
use Rattle.std.proofs.lemmas.Nat.{pow_pos}
use native.Mathlib.Numerals.{unary_clauses}
use Rattle.zone_blocks.specs.declared.block.Block.{Block}
use Rattle.zone_blocks.specs.{Covers, IsFree, AreMaximalBlocks, IsMaximalBlock, IsInOneBlock}
use Rattle.group_tree.specs.declared.group.Group.{Group}
use Rattle.group_tree.specs.Path.{names_of}
use Rattle.group_tree.specs.Groups.{has_group, group_at, path_of, in_subtree}
use Rattle.step_rules.specs.declared.phase.ChargedUnit.{ChargedUnit}
use Rattle.step_rules.specs.declared.step.FramePlace.{FramePlace}
use Rattle.step_rules.specs.declared.step.FramePlace.TheVariants.{Free, LentTo, Charged}
use Rattle.step_rules.specs.{keeper_of, is_cpu, free_in, times, usage_of, state_of, IsLegalRun, IsShown, HasOnce, small_zone, life_of_a_frame}
use Rattle.step_rules.specs.{kept_run, shown_rightly, at_list, IsShownWrongly, seen_nowhere, seen_twice, listed_twice, listed_by_nobody}
use Rattle.step_rules.specs.{kept_in_no_unit, seen_beyond, prepaid_for_nobody, prepaid_left_out, no_group_seen, group_too_many, limit_never_set}
use Rattle.step_rules.specs.{IsWrongAfter, shown_free, parted_areas, prepaid_by_nobody, prepaid_for_no_group, granted_and_lost, lost_in_number}
use Rattle.step_rules.specs.{units_after_run}
use Rattle.step_rules.specs.State.{State, sum_to, boot_groups}
use Rattle.step_rules.specs.Promise.{Promise}
use Rattle.step_rules.proofs.SmallRuns.{life_is_legal}
use Rattle.step_rules.proofs.LentTo.{beginnings_are_legal}
use Rattle.step_rules.proofs.Promising.{the_promise_is_kept}
use Rattle.step_rules.proofs.PhaseLemmas.{none_some}

-- the state that is shown
abbrev s : State
s = state_of small_zone kept_run

pub kept_run_is_legal : IsLegalRun small_zone kept_run
kept_run_is_legal = beginnings_are_legal small_zone life_of_a_frame life_is_legal 15

-- ---- shown rightly
-- the one free block: that of frame 1
free_block : IsMaximalBlock (false ∷ true ∷ []) (record { at = 1; order = 0 })
free_block = record {
  is_free = record {
    block = record { order = omega arith; aligned = refl; inside = omega arith };
    all_free = λ f covers.
        let low = covers.from in
        let high = covers.before in
        let e : 1 ≡ f = omega arith in
        subst (λ (k : ℕ). slice_index_or (false ∷ true ∷ []) k false ≡ true) e refl;
  };
  maximal = λ larger. false≢true (larger.all_free 0 (record { from = omega arith; before = omega arith }));
}

only_block : (b : Block) → IsMaximalBlock (false ∷ true ∷ []) b → b ≡ record { at = 1; order = 0 }
only_block b is = by_start b.at b.order refl refl
  where
    twice : (k : ℕ) → 2 ^ suc k ≡ 2 * 2 ^ k
    twice k = simp unary_clauses (omega arith)

    by_start : (at order : ℕ) → b.at ≡ at → b.order ≡ order → b ≡ record { at = 1; order = 0 }
    by_start zero order a o =
        absurd (false≢true (ap (λ (k : ℕ). slice_index_or (false ∷ true ∷ []) k false) (sym a) ∙ is.is_free.all_free b.at (record { from = omega arith; before = let some = pow_pos b.order in omega arith })))
    by_start (suc zero) zero a o = (λ i. record { at = a i; order = o i })
    by_start (suc zero) (suc k) a o =
        let size : 2 ^ b.order ≡ 2 * 2 ^ k = ap (λ (n : ℕ). 2 ^ n) o ∙ twice k in
        let some = pow_pos k in
        let inside = is.is_free.block.inside in
        absurd (omega (arith, size, some, inside, a))
    by_start (suc (suc n)) order a o =
        let some = pow_pos b.order in
        let inside = is.is_free.block.inside in
        absurd (omega (arith, some, inside, a))

areas_shown : AreMaximalBlocks (free_in s.zone s.phases) shown_rightly.areas
areas_shown = record {
  each = λ b there. subst (λ (c : Block). IsMaximalBlock (false ∷ true ∷ []) c) (alone b there.0 there.1 there.2) free_block;
  all = λ b is. (0, omega arith, sym (only_block b is));
  ordered = λ i j d below few. absurd (omega (arith, below, few));
}
  where
    alone : (b : Block) (k : ℕ) → k < 1 → slice_index_or shown_rightly.areas k b ≡ b → record { at = 1; order = 0 } ≡ b
    alone b zero few e = e
    alone b (suc k) few e = absurd (omega (arith, few))

stocks_shown : (p : ℕ) → shown_rightly.stocks p ≡ (s.parts p).stock
stocks_shown p = elim (cases_eq p 1) [
  | inl e ↦ subst (λ (k : ℕ). shown_rightly.stocks k ≡ (s.parts k).stock) (sym e) refl
  | inr ne ↦ rw (ne_eqb p 1 ne) refl
]

lists_shown : (p : ℕ) → shown_rightly.lists p ≡ (s.parts p).list
lists_shown p = elim (cases_eq p 1) [
  | inl e ↦ subst (λ (k : ℕ). shown_rightly.lists k ≡ (s.parts k).list) (sym e) refl
  | inr ne ↦ rw (ne_eqb p 1 ne) refl
]

keeper_shown : (f : ℕ) → shown_rightly.keeper f ≡ keeper_of (s.phases f)
keeper_shown f = elim (cases_eq f 0) [
  | inl e ↦ subst (λ (k : ℕ). shown_rightly.keeper k ≡ keeper_of (s.phases k)) (sym e) refl
  | inr ne ↦ rw (ne_eqb f 0 ne) refl
]

current_shown : (g : ℕ) → has_group s.groups g ≡ true → shown_rightly.current g ≡ usage_of s g
unfolding has_group group_at in_subtree path_of names_of sum_to
current_shown g here = elim (cases_eq 0 g) [
  | inl e ↦ subst (λ (k : ℕ). 2 ≡ usage_of s k) e refl
  | inr ne ↦ absurd (false≢true (sym (no_other ne) ∙ here))
]
  where
    no_other : (0 ≡ g → ⊥) → has_group (boot_groups small_zone) g ≡ false
    no_other ne = rw (ne_eqb 0 g ne) refl

pub right_is_shown : IsShown s shown_rightly
right_is_shown = record {
  areas = areas_shown;
  lists = lists_shown;
  keeper = keeper_shown;
  groups = refl;
  stocks = stocks_shown;
  current = current_shown;
}

pub right_is_kept : Promise small_zone kept_run shown_rightly
right_is_kept = the_promise_is_kept small_zone kept_run shown_rightly kept_run_is_legal refl right_is_shown

-- ---- shown wrongly
-- a list of another CPU is empty
not_listed : (q p f : ℕ) (frames : List ℕ) → (p ≡ q → ⊥) → times f (at_list q frames p) ≡ 1 → ⊥
not_listed q p f frames ne e = true≢false (ap (λ (n : ℕ). n == 0) (sym (none ne) ∙ e))
  where
    none : (p ≡ q → ⊥) → times f (at_list q frames p) ≡ 0
    none away = rw (ne_eqb p q away) refl

-- no block holds a frame where there is none
in_no_block : (f : ℕ) → IsInOneBlock [] f → ⊥
in_no_block f in_it = let few = in_it.1.1 in omega (arith, few)

pub nowhere_is_wrong : IsShownWrongly seen_nowhere
nowhere_is_wrong promise = by_place (promise.frames 1 (omega arith)).place (promise.frames 1 (omega arith)).once
  where
    by_place : (p : FramePlace) → HasOnce small_zone seen_nowhere 1 p → ⊥
    by_place Free once = in_no_block 1 once
    by_place (LentTo p) once = true≢false (ap (λ (n : ℕ). n == 0) once.1)
    by_place (Charged g) once = none_some g once.1

abbrev is_free_place : FramePlace → Bool
is_free_place Free = true
is_free_place _ = false

pub twice_is_wrong : IsShownWrongly seen_twice
twice_is_wrong promise =
    let one = promise.frames 1 (omega arith) in
    let free = one.only Free (record { at = 1; order = 0 }, (0, omega arith, refl), record { from = omega arith; before = omega arith }) in
    let listed = one.only (LentTo 1) (omega arith) in
    true≢false (ap is_free_place (free ∙ sym listed))

pub listed_twice_is_wrong : IsShownWrongly listed_twice
listed_twice_is_wrong promise = by_place (promise.frames 1 (omega arith)).place (promise.frames 1 (omega arith)).once
  where
    by_place : (p : FramePlace) → HasOnce small_zone listed_twice 1 p → ⊥
    by_place Free once = in_no_block 1 once
    by_place (LentTo p) once = elim (cases_eq p 1) [
      | inl e ↦ true≢false (ap (λ (n : ℕ). n == 2) (subst (λ (k : ℕ). times 1 (listed_twice.lists k) ≡ 1) e once.1))
      | inr ne ↦ not_listed 1 p 1 (1 ∷ 1 ∷ []) ne once.1
    ]
    by_place (Charged g) once = none_some g once.1

pub by_nobody_is_wrong : IsShownWrongly listed_by_nobody
by_nobody_is_wrong promise = by_place (promise.frames 1 (omega arith)).place (promise.frames 1 (omega arith)).once
  where
    by_place : (p : FramePlace) → HasOnce small_zone listed_by_nobody 1 p → ⊥
    by_place Free once = in_no_block 1 once
    by_place (LentTo p) once = elim (cases_eq p 3) [
      | inl e ↦ false≢true (subst (λ (k : ℕ). is_cpu small_zone k ≡ true) e once.0)
      | inr ne ↦ not_listed 3 p 1 (1 ∷ []) ne once.1
    ]
    by_place (Charged g) once = none_some g once.1

-- the only unit of the run is that of frame 0, of one frame
second_in_no_unit : (h k : ℕ) → (units_after_run kept_run).unit h ≡ Some (record { group = 0; order = k }) → Covers (record { at = h; order = k }) 1 → ⊥
second_in_no_unit h k is covers = elim (cases_eq 0 h) [
  | inl e ↦
      let size = one_frame (subst (λ (m : ℕ). (units_after_run kept_run).unit m ≡ Some (record { group = 0; order = k })) (sym e) is) in
      let high = covers.before in
      omega (arith, e, size, high)
  | inr ne ↦ none_some _ (sym (no_unit ne) ∙ is)
]
  where
    order_in : Option ChargedUnit → ℕ
    order_in None = 0
    order_in (Some unit) = unit.order

    one_frame : ◌≡◌ {A = Option ChargedUnit} (Some (record { group = 0; order = 0 })) (Some (record { group = 0; order = k })) → 1 ≡ 2 ^ k
    one_frame same = ap (λ (n : ℕ). 2 ^ n) (ap order_in same)

    no_unit : (0 ≡ h → ⊥) → (units_after_run kept_run).unit h ≡ None
    no_unit ne = rw (ne_eqb 0 h ne) refl

pub in_no_unit_is_wrong : IsShownWrongly kept_in_no_unit
in_no_unit_is_wrong promise =
    let unit = ((promise.frames 1 (omega arith)).kept 0).0 refl in
    second_in_no_unit unit.0 unit.1 unit.2 unit.3

pub beyond_is_wrong : IsShownWrongly seen_beyond
beyond_is_wrong promise = promise.beyond 2 (omega arith) (LentTo 1) (omega arith)

pub for_nobody_is_wrong : IsShownWrongly prepaid_for_nobody
for_nobody_is_wrong promise = none_some _ (promise.stocks 1 (omega arith)).1.1

pub left_out_is_wrong : IsShownWrongly prepaid_left_out
unfolding has_group group_at in_subtree path_of names_of sum_to
left_out_is_wrong promise = true≢false (ap (λ (n : ℕ). n == 1) (promise.current 0 refl).0)

pub no_group_is_wrong : IsShownWrongly no_group_seen
no_group_is_wrong promise = true≢false (ap (λ (groups : List Group). length groups == 0) promise.groups)

pub too_many_is_wrong : IsShownWrongly group_too_many
too_many_is_wrong promise = false≢true (ap (λ (groups : List Group). length groups == 1) promise.groups)

pub never_set_is_wrong : IsShownWrongly limit_never_set
never_set_is_wrong promise = true≢false (ap is_first_limited promise.groups)
  where
    is_first_limited : List Group → Bool
    is_first_limited [] = false
    is_first_limited (group ∷ groups) = is_some group.limit

-- two free blocks beside one another are one
pub parted_is_wrong : IsWrongAfter [] parted_areas
parted_is_wrong promise =
    let free = promise.areas.0 in
    let size : length free ≡ 2 = promise.areas.1 in
    let low = promise.areas.2.each (record { at = 0; order = 0 }) (0, omega arith, refl) in
    let high = promise.areas.2.each (record { at = 1; order = 0 }) (1, omega arith, refl) in
    low.maximal (record {
      block = record { order = omega arith; aligned = refl; inside = omega (arith, size) };
      all_free = both free (low.is_free.all_free 0 (record { from = omega arith; before = omega arith }))
          (high.is_free.all_free 1 (record { from = omega arith; before = omega arith }));
    })
  where
    both : (free : List Bool) → IsFree free 0 → IsFree free 1 → (f : ℕ) → Covers (record { at = 0; order = 1 }) f → IsFree free f
    both free a b zero covers = a
    both free a b (suc zero) covers = b
    both free a b (suc (suc f)) covers = let past = covers.before in absurd (omega (arith, past))

pub by_no_cpu_is_wrong : IsWrongAfter [] prepaid_by_nobody
by_no_cpu_is_wrong promise = false≢true (promise.stocks 3 (omega arith)).0

pub for_no_group_is_wrong : IsWrongAfter [] prepaid_for_no_group
unfolding has_group group_at
for_no_group_is_wrong promise =
    let paid = promise.stocks 1 (omega arith) in
    false≢true (subst (λ (g : ℕ). has_group (boot_groups small_zone) g ≡ true) (sym (some_number 5 paid.1.0 paid.1.1)) paid.1.2)
  where
    some_number : (a b : ℕ) → Some a ≡ Some b → a ≡ b
    some_number a b z = cc

pub lost_is_wrong : IsWrongAfter granted_and_lost shown_free
unfolding has_group group_at in_subtree path_of names_of sum_to
lost_is_wrong promise = true≢false (ap (λ (n : ℕ). n == 0) (promise.current 0 refl).1)

pub lost_in_number_is_wrong : IsWrongAfter granted_and_lost lost_in_number
unfolding has_group group_at in_subtree path_of names_of sum_to
lost_in_number_is_wrong promise = true≢false (ap (λ (n : ℕ). n == 1) (promise.current 0 refl).0)
