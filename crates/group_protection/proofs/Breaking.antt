-- What memory.min keeps in small ledgers. Serves the law.
use Rattle.std.proofs.Common.{◌≡◌, ℕ, ◌≤◌, List, [], ◌∷◌, refl, sym, arith}
use Rattle.group_tree.specs.Path.{names_of, parent_path}
use Rattle.group_tree.specs.Groups.{in_subtree, parent_of, group_at, number_at, path_of}
use Rattle.group_charge.specs.Charges.{current_of, usage_charged}
use Rattle.group_protection.specs.Protections.{effective, min_key}
use Rattle.group_protection.specs.Breaches.{IsKeptIn, MinKeepsWhatItProtects, with_min}
use Rattle.group_protection.proofs.Effective.{effective-same}

-- what protects a group that is kept, if no usage changes
module _ (mins : List ℕ) (group : ℕ) (kept : IsKeptIn (with_min mins) group) where
  abbrev protects : ℕ
  protects = effective min_key (with_min mins) 1 group

  same : effective min_key kept.turn 1 group ≡ protects
  same = effective-same min_key kept.turn (with_min mins) 1 (sym kept.groups) (sym kept.settings)
      (λ other. let x = kept.since other in let y = kept.until other in omega (arith, x, y)) group

  enough : current_of (with_min mins) group ≤ protects
  enough = let x = kept.few in let e = same in omega (arith, x, e)

  not_zero : 1 ≤ protects
  not_zero = let x = kept.some in let e = same in omega (arith, x, e)

thirty : (mins : List ℕ) → current_of (with_min mins) 3 ≡ 30
unfolding usage_charged in_subtree path_of group_at names_of
thirty mins = refl

value : effective min_key (with_min (0 ∷ 0 ∷ 50 ∷ [])) 1 3 ≡ 16
unfolding effective parent_of parent_path number_at usage_charged in_subtree path_of group_at names_of
value = refl

other_value : effective min_key (with_min (0 ∷ 0 ∷ 0 ∷ 0 ∷ 0 ∷ 0 ∷ 90 ∷ [])) 1 3 ≡ 0
unfolding effective parent_of parent_path number_at usage_charged in_subtree path_of group_at names_of
other_value = refl

limited_value : effective min_key (with_min (0 ∷ 90 ∷ [])) 1 3 ≡ 0
unfolding effective parent_of parent_path number_at usage_charged in_subtree path_of group_at names_of
limited_value = refl

unset_value : effective min_key (with_min []) 1 6 ≡ 0
unfolding effective parent_of parent_path number_at usage_charged in_subtree path_of group_at names_of
unset_value = refl

all_value : effective min_key (with_min (0 ∷ 0 ∷ 90 ∷ [])) 1 3 ≡ 30
unfolding effective parent_of parent_path number_at usage_charged in_subtree path_of group_at names_of
all_value = refl

pub what_min_keeps : MinKeepsWhatItProtects
what_min_keeps = record {
  all = record {
    turn = with_min (0 ∷ 0 ∷ 90 ∷ []);
    groups = refl;
    settings = refl;
    since = λ other. omega arith;
    until = λ other. omega arith;
    some = let v = all_value in omega (arith, v);
    few = let v = all_value in let c = thirty (0 ∷ 0 ∷ 90 ∷ []) in omega (arith, v, c);
  };
  too_few = λ kept. let mins = 0 ∷ 0 ∷ 50 ∷ [] in let v = value in let c = thirty mins in let e = enough mins 3 kept in omega (arith, v, c, e);
  of_another = λ kept. let v = other_value in let e = not_zero (0 ∷ 0 ∷ 0 ∷ 0 ∷ 0 ∷ 0 ∷ 90 ∷ []) 3 kept in omega (arith, v, e);
  of_the_limited = λ kept. let v = limited_value in let e = not_zero (0 ∷ 90 ∷ []) 3 kept in omega (arith, v, e);
  unset = λ kept. let v = unset_value in let e = not_zero [] 6 kept in omega (arith, v, e);
}
