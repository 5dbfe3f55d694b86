-- The small runs of groups and of a stock are legal, each step in turn.
use Rattle.std.proofs.Common.{◌≡◌, ℕ, ◌+◌, ◌<◌, Bool, true, false, Option, Some, None, List, [], ◌∷◌, refl, sym, ◌∙◌, ap, subst, arith, rules, inl, inr, zero, suc}
use Rattle.std.specs.Prelude.{codes}
use Rattle.std.specs.List.{slice_index_or}
use Rattle.std.proofs.lemmas.Bool.{cases_eq, ne_eqb, true≢false, false≢true}
use Rattle.std.proofs.lemmas.Nat.{pow_pos}
use Rattle.zone_blocks.specs.declared.block.Block.{Block}
use Rattle.zone_blocks.specs.Areas.{IsFreeBlock}
use Rattle.group_tree.specs.declared.event.EventKey.TheVariants.{Max, Oom, OomKill, OomGroupKill}
use Rattle.group_tree.specs.declared.group.Group.{Group}
use Rattle.group_tree.specs.Path.{names_of, parent_path, is_name, is_well_formed}
use Rattle.group_tree.specs.Groups.{new_row, has_group, group_at, path_of, in_subtree, limit_of, number_at, has_child, make_fault, room_of}
use Rattle.group_tree.specs.Groups.{with_limit, with_oom_group, without_group, IsLeastFreeNumber}
use Rattle.group_tree.specs.Room.{PathHasRoom, IsLowestOver, has_room, fits_limit}
use Rattle.step_rules.specs.{at_boot, is_of_group, IsLegalRun, small_zone, group_comes_and_goes, killed_group_ends, group_killed_whole}
use Rattle.step_rules.specs.{group_dies_whole, stock_without_a_page, events_in, events_local_in, flag_given}
use Rattle.step_rules.specs.Examples.{group_in_use, group_goes}
use Rattle.step_rules.specs.State.{sum_to, all_to, boot_groups, boot_root}
use Rattle.step_rules.proofs.SmallRuns.{allowed_both, legal_each, root_has_room, front_block}

-- the root, a group with a limit, and one below it
abbrev three : Option ℕ → List Group
three limit = boot_root small_zone ∷ record (new_row 1 (codes "/a")) { limit = limit } ∷ new_row 2 (codes "/a/b") ∷ []

-- who is above the lower one
data Above (m : ℕ) : Type 0 where
  IsRoot : 0 ≡ m → Above m
  IsUpper : 1 ≡ m → Above m
  IsLower : 2 ≡ m → Above m

above : (limit : Option ℕ) (m : ℕ) → in_subtree (three limit) m 2 ≡ true → Above m
unfolding in_subtree path_of group_at
above limit m below = elim (cases_eq 0 m) [
  | inl e ↦ IsRoot e
  | inr far ↦ elim (cases_eq 1 m) [
    | inl e ↦ IsUpper e
    | inr farther ↦ elim (cases_eq 2 m) [ inl e ↦ IsLower e | inr none ↦ absurd (false≢true (sym (nobody far farther none) ∙ below)) ]
  ]
]
  where
    nobody : (0 ≡ m → ⊥) → (1 ≡ m → ⊥) → (2 ≡ m → ⊥) → in_subtree (three limit) m 2 ≡ false
    nobody a b c = rw (ne_eqb 0 m a) (rw (ne_eqb 1 m b) (rw (ne_eqb 2 m c) refl))

path_has_room : (limit : Option ℕ) (usage : ℕ → ℕ) (n : ℕ) → fits_limit limit (usage 1 + n) ≡ true → PathHasRoom (three limit) usage 2 n
unfolding limit_of group_at
path_has_room limit usage n fits m below = by_place (above limit m below)
  where
    by_place : Above m → has_room (three limit) usage m n ≡ true
    by_place (IsRoot e) = subst (λ (k : ℕ). has_room (three limit) usage k n ≡ true) e refl
    by_place (IsUpper e) = subst (λ (k : ℕ). has_room (three limit) usage k n ≡ true) e fits
    by_place (IsLower e) = subst (λ (k : ℕ). has_room (three limit) usage k n ≡ true) e refl

upper_is_over : (limit : Option ℕ) (usage : ℕ → ℕ) (n : ℕ) → fits_limit limit (usage 1 + n) ≡ false → IsLowestOver (three limit) usage 2 n 1
unfolding limit_of group_at in_subtree path_of names_of
upper_is_over limit usage n over = record {
  on_path = refl;
  over = over;
  lowest = λ m below full. by_place m (above limit m below) full;
}
  where
    by_place : (m : ℕ) → Above m → has_room (three limit) usage m n ≡ false → in_subtree (three limit) m 1 ≡ true
    by_place m (IsRoot e) full = subst (λ (k : ℕ). in_subtree (three limit) k 1 ≡ true) e refl
    by_place m (IsUpper e) full = subst (λ (k : ℕ). in_subtree (three limit) k 1 ≡ true) e refl
    by_place m (IsLower e) full = absurd (true≢false (subst (λ (k : ℕ). has_room (three limit) usage k n ≡ false) (sym e) full))

first_number : IsLeastFreeNumber (boot_groups small_zone) 1
unfolding has_group group_at
first_number = record { free = refl; least = λ k few. by_number k few }
  where
    by_number : (k : ℕ) → k < 1 → has_group (boot_groups small_zone) k ≡ true
    by_number zero few = refl
    by_number (suc k) few = absurd (omega (arith, few))

abbrev two : Option ℕ → List Group
two limit = boot_root small_zone ∷ record (new_row 1 (codes "/a")) { limit = limit } ∷ []

second_number : (limit : Option ℕ) → IsLeastFreeNumber (two limit) 2
unfolding has_group group_at
second_number limit = record { free = refl; least = λ k few. by_number k few }
  where
    by_number : (k : ℕ) → k < 2 → has_group (two limit) k ≡ true
    by_number zero few = refl
    by_number (suc zero) few = refl
    by_number (suc (suc k)) few = absurd (omega (arith, few))

none_free : (free : List Bool) → free ≡ false ∷ false ∷ [] → (b : Block) → b.order ≡ 0 → IsFreeBlock free b → ⊥
none_free free e b small is =
    false≢true (sym (ap (λ (xs : List Bool). slice_index_or xs b.at false) e ∙ by_start b.at) ∙ is.all_free b.at (record { from = omega arith; before = let some = pow_pos b.order in omega arith }))
  where
    by_start : (k : ℕ) → slice_index_or (false ∷ false ∷ []) k false ≡ false
    by_start zero = refl
    by_start (suc zero) = refl
    by_start (suc (suc k)) = refl

pub group_run_is_legal : IsLegalRun small_zone group_comes_and_goes
unfolding has_group group_at sum_to all_to in_subtree path_of names_of number_at parent_path is_name is_well_formed make_fault room_of has_child with_limit without_group limit_of
group_run_is_legal =
    legal_each (at_boot small_zone) group_comes_and_goes (
    allowed_both (at_boot small_zone) group_in_use group_goes
    (search (rules, first_number, second_number, path_has_room, upper_is_over, front_block) depth 40)
    (search (rules, first_number, second_number, path_has_room, upper_is_over, front_block) depth 40)
    )

not_group_5 : ◌≡◌ {A = Option ℕ} (Some 0) (Some 5) → ⊥
not_group_5 same = true≢false (ap (λ o. is_of_group o 0) same)

pub stock_run_is_legal : IsLegalRun small_zone stock_without_a_page
unfolding has_group group_at sum_to all_to
stock_run_is_legal = legal_each (at_boot small_zone) stock_without_a_page (search (rules, root_has_room, none_free, not_group_5) depth 40)

pub noted_above : (events_in Oom small_zone group_comes_and_goes 1 ≡ 1) × (events_local_in Oom small_zone group_comes_and_goes 1 ≡ 0)
unfolding in_subtree path_of group_at names_of with_limit without_group
noted_above = (refl, refl)

pub counted_anew : (events_in Oom small_zone group_comes_and_goes 2 ≡ 0) × (events_in OomKill small_zone group_comes_and_goes 2 ≡ 0)
unfolding in_subtree path_of group_at names_of with_limit without_group
counted_anew = (refl, refl)

pub noted_at_last : (events_in Max small_zone group_comes_and_goes 0 ≡ 1) × (events_local_in Max small_zone group_comes_and_goes 2 ≡ 1)
unfolding in_subtree path_of group_at names_of with_limit without_group
noted_at_last = (refl, refl)

-- two groups without limits have room
two_have_room : (usage : ℕ → ℕ) (n : ℕ) → PathHasRoom (two None) usage 1 n
unfolding limit_of group_at in_subtree path_of
two_have_room usage n m below = elim (cases_eq 0 m) [
  | inl e ↦ subst (λ (k : ℕ). has_room (two None) usage k n ≡ true) e refl
  | inr far ↦ elim (cases_eq 1 m) [
    | inl e ↦ subst (λ (k : ℕ). has_room (two None) usage k n ≡ true) e refl
    | inr farther ↦ absurd (false≢true (sym (nobody far farther) ∙ below))
  ]
]
  where
    nobody : (0 ≡ m → ⊥) → (1 ≡ m → ⊥) → in_subtree (two None) m 1 ≡ false
    nobody a b = rw (ne_eqb 0 m a) (rw (ne_eqb 1 m b) refl)

pub killed_run_is_legal : IsLegalRun small_zone killed_group_ends
unfolding has_group group_at sum_to all_to in_subtree path_of names_of number_at parent_path is_name is_well_formed make_fault room_of has_child with_limit without_group limit_of
killed_run_is_legal = legal_each (at_boot small_zone) killed_group_ends (search (rules, first_number, second_number, two_have_room, front_block) depth 40)

pub whole_run_is_legal : IsLegalRun small_zone group_dies_whole
unfolding has_group group_at sum_to all_to in_subtree path_of names_of number_at parent_path is_name is_well_formed make_fault room_of has_child with_oom_group without_group limit_of
whole_run_is_legal = legal_each (at_boot small_zone) group_dies_whole (search (rules, first_number, second_number) depth 40)

pub flags_given : (flag_given group_killed_whole 1 ≡ true) × (flag_given group_killed_whole 2 ≡ false)
flags_given = (refl, refl)

pub counted_whole : (events_local_in OomGroupKill small_zone group_killed_whole 1 ≡ 1) × (events_local_in OomGroupKill small_zone group_killed_whole 2 ≡ 0)
counted_whole = (refl, refl)

pub counted_above : (events_in OomGroupKill small_zone group_killed_whole 0 ≡ 1) × (events_in OomKill small_zone group_killed_whole 0 ≡ 2)
unfolding in_subtree path_of group_at names_of with_oom_group
counted_above = (refl, refl)

pub whole_anew : (flag_given group_dies_whole 1 ≡ false) × (events_local_in OomGroupKill small_zone group_dies_whole 1 ≡ 0)
whole_anew = (refl, refl)
