-- What a tree keeps by number beside its rows, and how a change keeps it. Serves the contracts of `Tree::new`, `make`,
-- `set_max`, `set_oom_group`, `remove`, `parent` and `depth`.
use Rattle.std.proofs.Common.{◌≡◌, ◌≢◌, ℕ, ◌+◌, ◌<◌, false, not, cond, ◌==◌, IsTrue, Option, Some, None, List, [], ◌∷◌, length, map, filter, get_or}
use Rattle.std.proofs.Common.{set, replicate, Contains, is_some, refl, sym, ap, ◌∙◌, subst, arith, ⊎_elim, length-append, Bool, true}
use Rattle.std.specs.Option.{option_and_then, option_map_or}
use Rattle.std.proofs.lemmas.Bool.{cases_lt, both_ways, cases_Bool, cases_eq, cond-false, cond-true, eq-eqb, ne_eqb}
use Rattle.std.proofs.lemmas.List.{get_or_past, get_or-set_other, get_or-set_same, get_or-replicate, length-set, length-replicate}
use Rattle.std.proofs.lemmas.List.Elements.{All-contains, All-filter, All-map, Contains-get_or, Contains-push_cases}
use Rattle.std.proofs.lemmas.Option.{same_Some}
use Rattle.group_tree.specs.declared.group.Group.{Group}
use Rattle.group_tree.specs.declared.tree.Slot.{Slot}
use Rattle.group_tree.specs.Path.{depth_of, names_of, parent_path}
use Rattle.group_tree.specs.Groups.{the_root, initial_groups, group_at, has_group, limit_of, number_at, parent_of, path_of, room_of, with_group, with_limit}
use Rattle.group_tree.specs.Groups.{new_row, without_group, limited, with_oom_group, flagged, AreGroups}
use Rattle.group_tree.specs.Slots.{AreSlots, slot_at, free_slot}
use Rattle.group_tree.specs.Ancestors.{depth_at}
use Rattle.group_tree.proofs.PathLemmas.{names_parent}
use Rattle.group_tree.proofs.GroupLemmas.{CanMake, All-one, room_of-initial, room_of-with, room_of-limited, room_of-flagged, room_of-without, some_is, has_group-contains, has_group-is, group_at-contains, number_at-contains}
use Rattle.group_tree.proofs.GroupLemmas.{number_at-there, path_of-at, parent_of-below, parent-there, limited-number, limited-path}
use Rattle.group_tree.proofs.GroupLemmas.{flagged-number, flagged-path, flagged-limit}
use Rattle.group_tree.proofs.CallerLemmas.{has_group-with, has_group-with_new, has_group-limited, has_group-flagged, has_group-without, has_group-without_own}

-- ---- a new tree, below whose root this many groups may exist
module _ (below : ℕ) where
  one_number : (x : Group) → Contains (initial_groups below) x → x.number ≡ 0
  one_number x h = All-contains (λ (y : Group). y.number ≡ 0) (initial_groups below) x (All-one (λ (y : Group). y.number ≡ 0) (the_root below) refl) h

  one_depth : (x : Group) → Contains (initial_groups below) x → depth_of x.path ≡ 0
  unfolding names_of
  one_depth x h =
      All-contains (λ (y : Group). depth_of y.path ≡ 0) (initial_groups below) x (All-one (λ (y : Group). depth_of y.path ≡ 0) (the_root below) refl) h

  one_limit : (x : Group) → Contains (initial_groups below) x → x.limit ≡ None
  one_limit x h =
      All-contains (λ (y : Group). y.limit ≡ None) (initial_groups below) x (All-one (λ (y : Group). y.limit ≡ None) (the_root below) refl) h

  -- the root's number is the only one
  alone : (n : ℕ) → n ≢ 0 → has_group (initial_groups below) n ≡ false
  unfolding has_group group_at
  alone n other = ap is_some (cond-false (0 == n) (Some (the_root below)) None (ne_eqb 0 n (λ e. other (sym e))))

  root_here : has_group (initial_groups below) 0 ≡ true
  unfolding has_group group_at
  root_here = refl

  -- the slots of numbers that no group has
  abbrev none : List Slot
  none = replicate (1 + below) free_slot

  none_there : (n : ℕ) → slot_at none n ≡ free_slot
  none_there n = ⊎_elim
      (λ lt. get_or-replicate (1 + below) n free_slot free_slot lt)
      (λ le. get_or_past none n free_slot (omega (arith, le, length-replicate (1 + below) free_slot)))
      (cases_lt n (1 + below))

  -- only the root's number is a group's
  abbrev first : Slot
  first = record free_slot { is_there = true }

  abbrev pub first_slots : List Slot
  first_slots = set none 0 first

  pub AreSlots-initial : (slots : List Slot) → slots ≡ first_slots → AreSlots (initial_groups below) slots
  AreSlots-initial slots e =
      let within : 0 < length none = omega (arith, length-replicate (1 + below) free_slot) in
      let here : slot_at slots 0 ≡ first = ap (λ ls. slot_at ls 0) e ∙ get_or-set_same none 0 first free_slot within in
      record {
        size = ap length e ∙ length-set none 0 first ∙ length-replicate (1 + below) free_slot ∙ sym (room_of-initial below);
        there = λ n. ⊎_elim
            (λ zero. ap (λ k. (slot_at slots k).is_there) zero ∙ ap (λ (l : Slot). l.is_there) here ∙ sym (ap (has_group (initial_groups below)) zero ∙ root_here))
            (λ other. ap (λ ls. (slot_at ls n).is_there) e
            ∙ ap (λ (l : Slot). l.is_there) (get_or-set_other none 0 n first free_slot other ∙ none_there n) ∙ sym (alone n other))
            (cases_eq n 0);
        parents = λ x y hx hy same. ap (λ n. (slot_at slots n).parent) (one_number x hx) ∙ ap (λ (l : Slot). l.parent) here ∙ sym (one_number y hy);
        depths = λ x hx. ap (λ n. (slot_at slots n).depth) (one_number x hx) ∙ ap (λ (l : Slot). l.depth) here ∙ sym (one_depth x hx);
        limits = λ x hx. ap (λ n. (slot_at slots n).limit) (one_number x hx) ∙ ap (λ (l : Slot). l.limit) here ∙ sym (one_limit x hx);
      }

-- ---- one more group
-- the group of a number that is free is none of these
apart : (groups : List Group) (n : ℕ) (x : Group) → has_group groups n ≡ false → Contains groups x → x.number ≢ n
apart groups n x free here = λ same. both_ways (has_group groups n) free (subst (λ m. IsTrue (has_group groups m)) same (has_group-contains groups x here))

-- no path is its own parent except the root's
no_own_parent : (groups : List Group) (path : List ℕ) → CanMake groups path → path ≡ parent_path path → ⊥
no_own_parent groups path can e =
    let w = names_parent path can.formed can.below_root in
    let more : length (names_of path) ≡ length (names_of (parent_path path)) + 1 = ap length w.1 ∙ length-append (names_of (parent_path path)) (w.0 ∷ []) in
    let same : length (names_of path) ≡ length (names_of (parent_path path)) = ap (λ q. length (names_of q)) e in
    absurd (omega arith)

-- the new path is no parent's
no_new_parent : (groups : List Group) (path : List ℕ) (x : Group) → AreGroups groups → CanMake groups path → Contains groups x → path ≡ parent_path x.path → ⊥
no_new_parent groups path x facts can here e =
    both_ways (is_some (number_at groups path)) can.fresh (ap (λ q. is_some (number_at groups q)) e
    ∙ All-contains (λ (y : Group). IsTrue (is_some (number_at groups (parent_path y.path)))) groups x facts.parents here)

pub AreSlots-with : (groups : List Group) (slots : List Slot) (n p : ℕ) (path : List ℕ) → AreGroups groups → AreSlots groups slots →
    CanMake groups path → n < room_of groups → has_group groups n ≡ false → number_at groups (parent_path path) ≡ Some p →
    AreSlots (with_group groups n path) (set slots n (record { is_there = true; parent = p; depth = depth_of path; limit = None }))
AreSlots-with groups slots n p path facts are can below free up =
    let row : Group = new_row n path in
    let slot : Slot = record { is_there = true; parent = p; depth = depth_of path; limit = None } in
    let new : List Slot = set slots n slot in
    let within : n < length slots = omega (arith, are.size) in
    let here : slot_at new n ≡ slot = get_or-set_same slots n slot free_slot within in
    record {
      size = length-set slots n slot ∙ are.size ∙ sym (room_of-with groups n path);
      there = λ k. ⊎_elim
          (λ same. ap (λ j. (slot_at new j).is_there) same ∙ ap (λ (l : Slot). l.is_there) here
          ∙ sym (ap (has_group (with_group groups n path)) same ∙ has_group-with_new groups n path free))
          (λ other. ap (λ (l : Slot). l.is_there) (get_or-set_other slots n k slot free_slot other) ∙ are.there k ∙ sym (has_group-with groups n k path other))
          (cases_eq k n);
      parents = λ x y hx hy e. ⊎_elim
          (λ old_x. ⊎_elim
          (λ old_y. ap (λ (l : Slot). l.parent) (get_or-set_other slots n x.number slot free_slot (apart groups n x free old_x))
          ∙ are.parents x y old_x old_y e)
          (λ new_y. absurd (no_new_parent groups path x facts can old_x (ap (λ (g : Group). g.path) new_y ∙ e)))
          (Contains-push_cases groups row y hy))
          (λ new_x.
          let own : (slot_at new x.number).parent ≡ p = ap (λ (g : Group). (slot_at new g.number).parent) (sym new_x) ∙ ap (λ (l : Slot). l.parent) here in
          let above : y.path ≡ parent_path path = e ∙ ap (λ (g : Group). parent_path g.path) (sym new_x) in
          ⊎_elim
          (λ old_y. own ∙ same_Some p y.number (sym up ∙ ap (number_at groups) (sym above) ∙ number_at-there groups y facts.paths_distinct old_y))
          (λ new_y. absurd (no_own_parent groups path can (ap (λ (g : Group). g.path) new_y ∙ above)))
          (Contains-push_cases groups row y hy))
          (Contains-push_cases groups row x hx);
      depths = λ x hx. ⊎_elim
          (λ old_x. ap (λ (l : Slot). l.depth) (get_or-set_other slots n x.number slot free_slot (apart groups n x free old_x)) ∙ are.depths x old_x)
          (λ new_x. ap (λ (g : Group). (slot_at new g.number).depth) (sym new_x) ∙ ap (λ (l : Slot). l.depth) here ∙ ap (λ (g : Group). depth_of g.path) new_x)
          (Contains-push_cases groups row x hx);
      limits = λ x hx. ⊎_elim
          (λ old_x. ap (λ (l : Slot). l.limit) (get_or-set_other slots n x.number slot free_slot (apart groups n x free old_x)) ∙ are.limits x old_x)
          (λ new_x. ap (λ (g : Group). (slot_at new g.number).limit) (sym new_x) ∙ ap (λ (l : Slot). l.limit) here ∙ ap (λ (g : Group). g.limit) new_x)
          (Contains-push_cases groups row x hx);
    }

-- ---- another limit
-- a row that has another limit was there before
pub record WasRow (groups : List Group) (n : ℕ) (limit : Option ℕ) (x : Group) : Type 0 where
  pub row : Group
  pub here : Contains groups row
  pub number : row.number ≡ x.number
  pub path : row.path ≡ x.path
  pub limit_is : x.limit ≡ cond (row.number == n) limit row.limit

limited-limit : (n : ℕ) (limit : Option ℕ) (y : Group) → (limited n limit y).limit ≡ cond (y.number == n) limit y.limit
limited-limit n limit y =
    ⊎_elim
    (λ t. ap (λ (g : Group). g.limit) (cond-true (y.number == n) (record y { limit = limit }) y t) ∙ sym (cond-true (y.number == n) limit y.limit t))
    (λ f. ap (λ (g : Group). g.limit) (cond-false (y.number == n) (record y { limit = limit }) y f) ∙ sym (cond-false (y.number == n) limit y.limit f))
    (cases_Bool (y.number == n))

was_row : (groups : List Group) (n : ℕ) (limit : Option ℕ) (x : Group) → Contains (with_limit groups n limit) x → WasRow groups n limit x
unfolding with_limit
was_row groups n limit x h =
    All-contains (λ (z : Group). WasRow groups n limit z) (map (limited n limit) groups) x
    (All-map (λ (z : Group). WasRow groups n limit z) (limited n limit) groups
    (λ k d lt.
    let y = get_or groups k d in
    record {
      row = y;
      here = Contains-get_or groups k d lt;
      number = sym (limited-number n limit y);
      path = sym (limited-path n limit y);
      limit_is =
          limited-limit n limit y;
    }))
    h

-- the slot of one group has another limit, and nothing else changes
abbrev pub limit_set : List Slot → ℕ → Option ℕ → List Slot
limit_set slots n limit = set slots n (record (slot_at slots n) { limit = limit })

module _ (slots : List Slot) (n : ℕ) (limit : Option ℕ) (within : n < length slots) where
  limit_set-here : slot_at (limit_set slots n limit) n ≡ record (slot_at slots n) { limit = limit }
  limit_set-here = get_or-set_same slots n (record (slot_at slots n) { limit = limit }) free_slot within

  limit_set-other : (k : ℕ) → k ≢ n → slot_at (limit_set slots n limit) k ≡ slot_at slots k
  limit_set-other k other = get_or-set_other slots n k (record (slot_at slots n) { limit = limit }) free_slot other

  limit_set-parent : (k : ℕ) → (slot_at (limit_set slots n limit) k).parent ≡ (slot_at slots k).parent
  limit_set-parent k =
      ⊎_elim
      (λ same. ap (λ j. (slot_at (limit_set slots n limit) j).parent) same ∙ ap (λ (l : Slot). l.parent) limit_set-here
      ∙ ap (λ j. (slot_at slots j).parent) (sym same))
      (λ other. ap (λ (l : Slot). l.parent) (limit_set-other k other))
      (cases_eq k n)

  limit_set-depth : (k : ℕ) → (slot_at (limit_set slots n limit) k).depth ≡ (slot_at slots k).depth
  limit_set-depth k =
      ⊎_elim
      (λ same. ap (λ j. (slot_at (limit_set slots n limit) j).depth) same ∙ ap (λ (l : Slot). l.depth) limit_set-here
      ∙ ap (λ j. (slot_at slots j).depth) (sym same))
      (λ other. ap (λ (l : Slot). l.depth) (limit_set-other k other))
      (cases_eq k n)

  limit_set-there : (k : ℕ) → (slot_at (limit_set slots n limit) k).is_there ≡ (slot_at slots k).is_there
  limit_set-there k =
      ⊎_elim
      (λ same. ap (λ j. (slot_at (limit_set slots n limit) j).is_there) same ∙ ap (λ (l : Slot). l.is_there) limit_set-here
      ∙ ap (λ j. (slot_at slots j).is_there) (sym same))
      (λ other. ap (λ (l : Slot). l.is_there) (limit_set-other k other))
      (cases_eq k n)

pub AreSlots-limited : (groups : List Group) (slots : List Slot) (n : ℕ) (limit : Option ℕ) → n < room_of groups → AreSlots groups slots →
    AreSlots (with_limit groups n limit) (limit_set slots n limit)
AreSlots-limited groups slots n limit below are =
    let within : n < length slots = omega (arith, are.size) in
    record {
      size = length-set slots n (record (slot_at slots n) { limit = limit }) ∙ are.size ∙ sym (room_of-limited groups n limit);
      there = λ k. limit_set-there slots n limit within k ∙ are.there k ∙ sym (has_group-limited groups n k limit);
      parents = λ x y hx hy e.
          let u = was_row groups n limit x hx in
          let v = was_row groups n limit y hy in
          limit_set-parent slots n limit within x.number
          ∙ ap (λ k. (slot_at slots k).parent) (sym u.number) ∙ are.parents u.row v.row u.here v.here (v.path ∙ e ∙ ap parent_path (sym u.path)) ∙ v.number;
      depths = λ x hx.
          let u = was_row groups n limit x hx in
          limit_set-depth slots n limit within x.number
          ∙ ap (λ k. (slot_at slots k).depth) (sym u.number) ∙ are.depths u.row u.here ∙ ap (λ q. depth_of q) u.path;
      limits = λ x hx.
          let u = was_row groups n limit x hx in
          ⊎_elim
          (λ same.
          let here : (slot_at (limit_set slots n limit) u.row.number).limit ≡ limit = ap (λ j. (slot_at (limit_set slots n limit) j).limit) same
          ∙ ap (λ (l : Slot). l.limit) (limit_set-here slots n limit within) in
          ap (λ j. (slot_at (limit_set slots n limit) j).limit) (sym u.number) ∙ here
          ∙ sym (u.limit_is ∙ cond-true (u.row.number == n) limit u.row.limit (eq-eqb u.row.number n same)))
          (λ other.
          ap (λ j. (slot_at (limit_set slots n limit) j).limit) (sym u.number)
          ∙ ap (λ (l : Slot). l.limit) (limit_set-other slots n limit within u.row.number other) ∙ are.limits u.row u.here
          ∙ sym (u.limit_is ∙ cond-false (u.row.number == n) limit u.row.limit (ne_eqb u.row.number n other)))
          (cases_eq u.row.number n);
    }

-- ---- another flag
-- a row that has another flag was there before, with the same limit
pub record WasFlagged (groups : List Group) (x : Group) : Type 0 where
  pub row : Group
  pub here : Contains groups row
  pub number : row.number ≡ x.number
  pub path : row.path ≡ x.path
  pub limit : row.limit ≡ x.limit

was_flagged : (groups : List Group) (n : ℕ) (flag : Bool) (x : Group) → Contains (with_oom_group groups n flag) x → WasFlagged groups x
unfolding with_oom_group
was_flagged groups n flag x h =
    All-contains (λ (z : Group). WasFlagged groups z) (map (flagged n flag) groups) x
    (All-map (λ (z : Group). WasFlagged groups z) (flagged n flag) groups
    (λ k d lt.
    let y = get_or groups k d in
    record {
      row = y;
      here = Contains-get_or groups k d lt;
      number = sym (flagged-number n flag y);
      path = sym (flagged-path n flag y);
      limit = sym (flagged-limit n flag y);
    }))
    h

pub AreSlots-flagged : (groups : List Group) (slots : List Slot) (n : ℕ) (flag : Bool) → AreSlots groups slots → AreSlots (with_oom_group groups n flag) slots
AreSlots-flagged groups slots n flag are = record {
  size = are.size ∙ sym (room_of-flagged groups n flag);
  there = λ k. are.there k ∙ sym (has_group-flagged groups n k flag);
  parents = λ x y hx hy e.
      let u = was_flagged groups n flag x hx in
      let v = was_flagged groups n flag y hy in
      ap (λ k. (slot_at slots k).parent) (sym u.number) ∙ are.parents u.row v.row u.here v.here (v.path ∙ e ∙ ap parent_path (sym u.path)) ∙ v.number;
  depths = λ x hx.
      let u = was_flagged groups n flag x hx in
      ap (λ k. (slot_at slots k).depth) (sym u.number) ∙ are.depths u.row u.here ∙ ap (λ q. depth_of q) u.path;
  limits = λ x hx.
      let u = was_flagged groups n flag x hx in
      ap (λ k. (slot_at slots k).limit) (sym u.number) ∙ are.limits u.row u.here ∙ u.limit;
}

-- ---- one group less
still_row : (groups : List Group) (n : ℕ) (x : Group) → Contains (without_group groups n) x → Contains groups x
unfolding without_group
still_row groups n x h =
    All-contains (λ (z : Group). Contains groups z) (filter (λ (g : Group). not (g.number == n)) groups) x
    (All-filter (λ (g : Group). not (g.number == n)) (λ (z : Group). Contains groups z) groups (λ k d lt. Contains-get_or groups k d lt))
    h

-- a group that remains has another number
still_other : (groups : List Group) (n : ℕ) (x : Group) → Contains (without_group groups n) x → x.number ≢ n
still_other groups n x h = λ same. both_ways (has_group (without_group groups n) n) (has_group-without_own groups n)
    (subst (λ m. IsTrue (has_group (without_group groups n) m)) same (has_group-contains (without_group groups n) x h))

pub AreSlots-without : (groups : List Group) (slots : List Slot) (n : ℕ) → n < room_of groups → n ≢ 0 → AreSlots groups slots →
    AreSlots (without_group groups n) (set slots n free_slot)
AreSlots-without groups slots n below other_than_root are =
    let new : List Slot = set slots n free_slot in
    let within : n < length slots = omega (arith, are.size) in
    let stays : (x : Group) → Contains (without_group groups n) x → slot_at new x.number ≡ slot_at slots x.number =
    λ x hx. get_or-set_other slots n x.number free_slot free_slot (still_other groups n x hx) in
    record {
      size = length-set slots n free_slot ∙ are.size ∙ sym (room_of-without groups n other_than_root);
      there = λ k. ⊎_elim
          (λ same. ap (λ j. (slot_at new j).is_there) same ∙ ap (λ (l : Slot). l.is_there) (get_or-set_same slots n free_slot free_slot within)
          ∙ sym (ap (has_group (without_group groups n)) same ∙ has_group-without_own groups n))
          (λ other. ap (λ (l : Slot). l.is_there) (get_or-set_other slots n k free_slot free_slot other) ∙ are.there k ∙ sym (has_group-without groups n k other))
          (cases_eq k n);
      parents = λ x y hx hy e. ap (λ (l : Slot). l.parent) (stays x hx) ∙ are.parents x y (still_row groups n x hx) (still_row groups n y hy) e;
      depths = λ x hx. ap (λ (l : Slot). l.depth) (stays x hx) ∙ are.depths x (still_row groups n x hx);
      limits = λ x hx. ap (λ (l : Slot). l.limit) (stays x hx) ∙ are.limits x (still_row groups n x hx);
    }

-- ---- what a slot says
pub parent-slot : (groups : List Group) (slots : List Slot) (g : ℕ) → AreGroups groups → AreSlots groups slots → IsTrue (has_group groups g) →
    (g ≡ 0 → ⊥) → parent_of groups g ≡ Some (slot_at slots g).parent
parent-slot groups slots g facts are there other =
    let w = has_group-is groups g there in
    let x = w.0 in
    let c = group_at-contains groups g x w.1 in
    let own : path_of groups g ≡ Some x.path = path_of-at groups g x w.1 in
    let s = some_is (number_at groups (parent_path x.path)) (parent-there groups g x.path facts own) in
    let y = number_at-contains groups (parent_path x.path) s.0 s.1 in
    let up : (slot_at slots x.number).parent ≡ y.0.number = are.parents x y.0 c.0 y.1 y.2 in
    parent_of-below groups g x.path other own ∙ s.1 ∙ ap Some (sym (ap (λ k. (slot_at slots k).parent) (sym c.1) ∙ up ∙ y.3))

pub depth-slot : (groups : List Group) (slots : List Slot) (g : ℕ) → AreSlots groups slots → IsTrue (has_group groups g) →
    (slot_at slots g).depth ≡ depth_at groups g
depth-slot groups slots g are there =
    let w = has_group-is groups g there in
    let x = w.0 in
    let c = group_at-contains groups g x w.1 in
    ap (λ k. (slot_at slots k).depth) (sym c.1) ∙ are.depths x c.0 ∙ sym (ap (λ o. option_map_or (λ q. depth_of q) o 0) (path_of-at groups g x w.1))

pub limit-slot : (groups : List Group) (slots : List Slot) (g : ℕ) → AreSlots groups slots → IsTrue (has_group groups g) →
    (slot_at slots g).limit ≡ limit_of groups g
unfolding limit_of
limit-slot groups slots g are there =
    let w = has_group-is groups g there in
    let x = w.0 in
    let c = group_at-contains groups g x w.1 in
    ap (λ k. (slot_at slots k).limit) (sym c.1) ∙ are.limits x c.0 ∙ sym (ap (option_and_then (λ (y : Group). y.limit)) w.1)
