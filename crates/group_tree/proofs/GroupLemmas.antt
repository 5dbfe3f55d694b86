-- What holds of the groups of a tree, and how a change keeps it. Serves the invariant of `Tree` and the contracts of its calls.
use Rattle.std.proofs.Common.{◌≡◌, ◌≢◌, ℕ, zero, suc, ◌+◌, ◌<◌, ◌≤◌, Bool, true, false, not, cond, leb, ◌&&◌, ◌||◌, ◌==◌, nat_eq, nat_le, nat_lt}
use Rattle.std.proofs.Common.{IsTrue, IsSomeAnd, Option, Some, None, is_some, is_none, List, [], ◌∷◌, ◌++◌, length, take, drop, get_or}
use Rattle.std.proofs.Common.{slice_get, map, filter, All, AllPairs, Contains, refl, sym, ap, ◌∙◌, subst, arith, ⊎_elim, lit≤}
use Rattle.std.specs.List.{find, list_all, list_any, starts_with}
use Rattle.std.specs.Option.{option_map, option_and_then, option_or, option_map_or}
use Rattle.std.specs.Str.{bytes_eq}
use Rattle.std.proofs.lemmas.Bool.{eqb-true, eqb-false, eq-eqb, ne_eqb, leb-false, leb-true, ltb-false, and_from, and_parts, or_parts, cases_Bool}
use Rattle.std.proofs.lemmas.Bool.{false≢true, true≢false, false_from_ne_true, not-false, not_from_false, both_ways, cond-true, cond-false, cond_both}
use Rattle.std.proofs.lemmas.List.{take_at, length-map, get_or-map, length_push, at_drop_more, at_drop_all}
use Rattle.std.proofs.lemmas.List.Elements.{All-push, All-map, filter_passes, All-cons, All-nil, Contains-get_or, All-head, All-tail, All-filter}
use Rattle.std.proofs.lemmas.List.Elements.{All-contains, All-weaker}
use Rattle.std.proofs.lemmas.List.Folds.{find-append, list_any_at}
use Rattle.std.proofs.lemmas.List.Filters.{length-filter_both}
use Rattle.std.proofs.lemmas.List.Kept.{AllPairs-filter}
use Rattle.std.proofs.lemmas.List.Quantifiers.{all_pairs_push}
use Rattle.std.proofs.lemmas.List.Sums.{length-filter, count_by-le-length}
use Rattle.group_tree.proofs.PathLemmas.{begins_parent}
use Rattle.std.proofs.lemmas.List.Recursion.{found_at}
use Rattle.std.proofs.lemmas.Option.{none-some, same_Some}
use Rattle.std.proofs.lemmas.Slice.Eq.{bytes_eq-Decides}
use Rattle.group_tree.specs.Path.{root_path, is_root, is_name, names_of, depth_of, parent_path, is_well_formed, IsWellFormed}
use Rattle.group_tree.specs.Groups.{Group, the_root, initial_groups, group_at, number_at, has_group, path_of, begins, in_subtree, has_child, parent_of, make_fault}
use Rattle.group_tree.specs.Bounds.{most_groups}
use Rattle.group_tree.specs.Groups.{new_row, is_oom_group, room_of, with_group, without_group, with_limit, limited, with_oom_group, flagged, AreGroups}

-- ---- finding
module _ {X : Type 0} (p : X → Bool) where
  pub found_passes : (xs : List X) (x : X) → find p xs ≡ Some x → p x ≡ true
  found_passes [] x e = absurd (none-some x e)
  found_passes (y ∷ ys) x e =
      ⊎_elim
      (λ t. let same : y ≡ x = same_Some y x (subst (λ b. cond b (Some y) (find p ys) ≡ Some x) t e) in subst (λ z. p z ≡ true) same t)
      (λ f. found_passes ys x (subst (λ b. cond b (Some y) (find p ys) ≡ Some x) f e))
      (cases_Bool (p y))

  pub found_in : (xs : List X) (x : X) → find p xs ≡ Some x → Contains xs x
  found_in [] x e = absurd (none-some x e)
  found_in (y ∷ ys) x e =
      ⊎_elim
      (λ t. (0, omega arith, same_Some y x (subst (λ b. cond b (Some y) (find p ys) ≡ Some x) t e)))
      (λ f. let h = found_in ys x (subst (λ b. cond b (Some y) (find p ys) ≡ Some x) f e) in (suc h.0, omega (arith, h.1), h.2))
      (cases_Bool (p y))

  pub is_some-find : (xs : List X) → is_some (find p xs) ≡ list_any p xs
  is_some-find [] = refl
  is_some-find (y ∷ ys) =
      ⊎_elim
      (λ t. subst (λ b. is_some (cond b (Some y) (find p ys)) ≡ (b || list_any p ys)) (sym t) refl)
      (λ f. subst (λ b. is_some (cond b (Some y) (find p ys)) ≡ (b || list_any p ys)) (sym f) (is_some-find ys))
      (cases_Bool (p y))

pub find_turn : {X : Type 0} (p : X → Bool) (xs : List X) (i : ℕ) (x : X) → i < length xs → x ≡ get_or xs i x → p x ≡ true → find p (drop i xs) ≡ Some x
find_turn p xs i x lt read t =
    at_drop_more (find p) xs i x lt ∙ ap (λ y. find p (y ∷ drop (i + 1) xs)) (sym read) ∙ cond-true (p x) (Some x) (find p (drop (i + 1) xs)) t

pub find_end : {X : Type 0} (p : X → Bool) (xs : List X) (i : ℕ) → length xs ≤ i → find p (drop i xs) ≡ None
find_end p xs i past = at_drop_all (find p) xs i past

pub some_is : {X : Type 0} (o : Option X) → is_some o ≡ true → (x : X) × (o ≡ Some x)
some_is None e = absurd (false≢true e)
some_is (Some x) e = (x, refl)

pub is_some-map : {X Y : Type 0} (f : X → Y) (o : Option X) → is_some (option_map f o) ≡ is_some o
is_some-map f None = refl
is_some-map f (Some x) = refl

-- a test that some element of the list passes
pub any_contains : {X : Type 0} (p : X → Bool) (xs : List X) (x : X) → Contains xs x → p x ≡ true → list_any p xs ≡ true
any_contains p xs x h t = list_any_at p xs h.0 x h.1 (subst (λ y. p y ≡ true) (sym h.2) t)

pub none_contains : {X : Type 0} (p : X → Bool) (xs : List X) (x : X) → list_any p xs ≡ false → Contains xs x → p x ≡ false
none_contains p xs x none h = false_from_ne_true (p x) (λ t. both_ways (list_any p xs) none (any_contains p xs x h t))

-- ---- a group by its number and by its path
pub has_group-any : (groups : List Group) (n : ℕ) → has_group groups n ≡ list_any (λ g. g.number == n) groups
unfolding has_group group_at
has_group-any groups n = is_some-find (λ g. g.number == n) groups

pub has_path-any : (groups : List Group) (path : List ℕ) → is_some (number_at groups path) ≡ list_any (λ g. bytes_eq g.path path) groups
unfolding number_at
has_path-any groups path =
    is_some-map (λ g. g.number) (find (λ g. bytes_eq g.path path) groups) ∙ is_some-find (λ g. bytes_eq g.path path) groups

pub group_at-contains : (groups : List Group) (n : ℕ) (g : Group) → group_at groups n ≡ Some g → Contains groups g × (g.number ≡ n)
unfolding group_at
group_at-contains groups n g e = (found_in (λ g. g.number == n) groups g e, eqb-true g.number n (found_passes (λ g. g.number == n) groups g e))

pub has_group-is : (groups : List Group) (n : ℕ) → IsTrue (has_group groups n) → (g : Group) × (group_at groups n ≡ Some g)
unfolding has_group
has_group-is groups n h = some_is (group_at groups n) h

pub has_group-contains : (groups : List Group) (g : Group) → Contains groups g → IsTrue (has_group groups g.number)
has_group-contains groups g h = has_group-any groups g.number ∙ any_contains (λ x. x.number == g.number) groups g h (eq-eqb g.number g.number refl)

pub group_at-there : (groups : List Group) (g : Group) → AllPairs (λ x y. x.number ≢ y.number) groups → Contains groups g → group_at groups g.number ≡ Some g
unfolding group_at
group_at-there groups g distinct h =
    let test : Group → Bool = λ x. x.number == g.number in
    let at : find test groups ≡ Some (get_or groups h.0 g) =
    found_at (find test) test Some None refl (λ _ _. refl) groups h.0 g h.1
    (λ j below. ne_eqb (get_or groups j g).number g.number (λ same. distinct j h.0 g below h.1 (same ∙ ap (λ (x : Group). x.number) (sym h.2))))
    (eq-eqb (get_or groups h.0 g).number g.number (ap (λ (x : Group). x.number) h.2)) in
    at ∙ ap Some h.2

pub number_at-there : (groups : List Group) (g : Group) → AllPairs (λ x y. x.path ≢ y.path) groups → Contains groups g → number_at groups g.path ≡ Some g.number
unfolding number_at
number_at-there groups g distinct h =
    let test : Group → Bool = λ x. bytes_eq x.path g.path in
    let at : find test groups ≡ Some (get_or groups h.0 g) =
    found_at (find test) test Some None refl (λ _ _. refl) groups h.0 g h.1
    (λ j below. false_from_ne_true (bytes_eq (get_or groups j g).path g.path)
    (λ e. distinct j h.0 g below h.1 ((bytes_eq-Decides (get_or groups j g).path g.path).0 e ∙ ap (λ (x : Group). x.path) (sym h.2))))
    ((bytes_eq-Decides (get_or groups h.0 g).path g.path).1 (ap (λ (x : Group). x.path) h.2)) in
    ap (option_map (λ (x : Group). x.number)) at ∙ ap (λ (x : Group). Some x.number) h.2

pub number_at-contains : (groups : List Group) (path : List ℕ) (n : ℕ) → number_at groups path ≡ Some n →
    (g : Group) × Contains groups g × (g.path ≡ path) × (g.number ≡ n)
unfolding number_at
number_at-contains groups path n e =
    let test : Group → Bool = λ x. bytes_eq x.path path in
    let some = some_is (find test groups) (sym (is_some-map (λ (x : Group). x.number) (find test groups)) ∙ ap is_some e) in
    let g = some.0 in (
      g,
      found_in test groups g some.1,
      (bytes_eq-Decides g.path path).0 (found_passes test groups g some.1),
      same_Some g.number n
          (ap (option_map (λ (x : Group). x.number)) (sym some.1) ∙ e),
    )

pub path_of-at : (groups : List Group) (n : ℕ) (g : Group) → group_at groups n ≡ Some g → path_of groups n ≡ Some g.path
unfolding path_of
path_of-at groups n g e = ap (option_map (λ (x : Group). x.path)) e

pub path_of-is : (groups : List Group) (n : ℕ) (path : List ℕ) → path_of groups n ≡ Some path → (g : Group) × (group_at groups n ≡ Some g) × (g.path ≡ path)
unfolding path_of
path_of-is groups n path e =
    let some = some_is (group_at groups n) (sym (is_some-map (λ (x : Group). x.path) (group_at groups n)) ∙ ap is_some e) in
    (some.0, some.1, same_Some some.0.path path (ap (option_map (λ (x : Group). x.path)) (sym some.1) ∙ e))

pub path_of-formed : (groups : List Group) (n : ℕ) (path : List ℕ) → All (λ g. IsWellFormed g.path) groups → path_of groups n ≡ Some path → IsWellFormed path
path_of-formed groups n path formed e =
    let h = path_of-is groups n path e in
    let g = h.0 in
    subst IsWellFormed h.2 (All-contains (λ x. IsWellFormed x.path) groups g formed (group_at-contains groups n g h.1).0)

pub in_subtree-paths : (groups : List Group) (g h : ℕ) (above below : List ℕ) → path_of groups g ≡ Some above → path_of groups h ≡ Some below →
    in_subtree groups g h ≡ starts_with bytes_eq (names_of below) (names_of above)
unfolding in_subtree
in_subtree-paths groups g h above below a b = ap (λ o. begins o (path_of groups h)) a ∙ ap (λ o. begins (Some above) o) b

-- ---- one group out
filter-some : {X : Type 0} (p : X → Bool) (xs : List X) → list_any p xs ≡ true → 1 ≤ length (filter p xs)
filter-some p [] e = absurd (false≢true e)
filter-some p (x ∷ xs) e =
    ⊎_elim
    (λ t. subst (λ b. 1 ≤ length (cond b (x ∷ filter p xs) (filter p xs))) (sym t) (omega arith))
    (λ f. subst (λ b. 1 ≤ length (cond b (x ∷ filter p xs) (filter p xs))) (sym f)
    (filter-some p xs (subst (λ b. (b || list_any p xs) ≡ true) f e)))
    (cases_Bool (p x))

pub find-filter : {X : Type 0} (p q : X → Bool) (xs : List X) → All (λ x. p x ≡ true → q x ≡ true) xs → find p (filter q xs) ≡ find p xs
find-filter p q [] h = refl
find-filter p q (x ∷ xs) h =
    let rest = find-filter p q xs (All-tail (λ x. p x ≡ true → q x ≡ true) x xs h) in
    ⊎_elim
    (λ t. subst (λ b. find p (cond b (x ∷ filter q xs) (filter q xs)) ≡ find p (x ∷ xs)) (sym t) (ap (λ o. cond (p x) (Some x) o) rest))
    (λ f.
    let out : p x ≡ false = false_from_ne_true (p x) (λ t. both_ways (q x) f (All-head (λ x. p x ≡ true → q x ≡ true) x xs h t)) in
    subst (λ b. find p (cond b (x ∷ filter q xs) (filter q xs)) ≡ find p (x ∷ xs)) (sym f)
    (rest ∙ sym (cond-false (p x) (Some x) (find p xs) out)))
    (cases_Bool (q x))

pub group_at-without : (groups : List Group) (n k : ℕ) → k ≢ n → group_at (without_group groups n) k ≡ group_at groups k
unfolding group_at without_group
group_at-without groups n k other =
    find-filter (λ g. g.number == k) (λ g. not (g.number == n)) groups
    (λ i d lt t. not_from_false ((get_or groups i d).number == n)
    (ne_eqb (get_or groups i d).number n (λ e. other (sym (eqb-true (get_or groups i d).number k t) ∙ e))))

pub is_oom_group-without : (groups : List Group) (n k : ℕ) → k ≢ n → is_oom_group (without_group groups n) k ≡ is_oom_group groups k
unfolding is_oom_group
is_oom_group-without groups n k other = ap (λ o. option_map_or (λ (g : Group). g.oom_group) o false) (group_at-without groups n k other)

pub room_of-without : (groups : List Group) (n : ℕ) → n ≢ 0 → room_of (without_group groups n) ≡ room_of groups
unfolding room_of
room_of-without groups n below =
    ap (λ o. 1 + option_map_or (λ (g : Group). g.descendants) o 0) (group_at-without groups n 0 (λ e. below (sym e)))

-- ---- there are as many groups as numbers below n, where each of these is taken
without-shorter : (groups : List Group) (n : ℕ) → IsTrue (has_group groups n) → length (without_group groups n) + 1 ≤ length groups
unfolding without_group
without-shorter groups n h =
    let one = filter-some (λ (g : Group). g.number == n) groups (sym (has_group-any groups n) ∙ h) in
    let both = length-filter_both (λ (g : Group). g.number == n) (λ g. not (g.number == n)) (λ g. refl) groups in
    omega arith

without-others : (groups : List Group) (n k : ℕ) → k ≢ n → has_group (without_group groups n) k ≡ has_group groups k
unfolding has_group
without-others groups n k other = ap is_some (group_at-without groups n k other)

pub length-full : (groups : List Group) (n : ℕ) → ((k : ℕ) → k < n → IsTrue (has_group groups k)) → n ≤ length groups
length-full groups zero all = omega arith
length-full groups (suc n) all =
    let shorter = without-shorter groups n (all n (omega arith)) in
    let rest : n ≤ length (without_group groups n) =
    length-full (without_group groups n) n (λ k below. let other : k ≢ n = omega arith in without-others groups n k other ∙ all k (omega arith)) in
    omega arith

-- ---- the facts of a tree's groups
pub group-formed : (groups : List Group) (n : ℕ) (g : Group) → AreGroups groups → group_at groups n ≡ Some g → IsWellFormed g.path
group-formed groups n g facts e = All-contains (λ x. IsWellFormed x.path) groups g facts.paths (group_at-contains groups n g e).0

pub All-one : {X : Type 0} (P : X → Type 0) (x : X) → P x → All P (x ∷ [])
All-one P x h = All-cons P x [] h (All-nil P)

root-formed : IsWellFormed root_path
unfolding is_well_formed names_of
root-formed = refl

root-depth : depth_of root_path ≤ 8
unfolding names_of
root-depth = lit≤ tt

root-parent : (below : ℕ) → IsTrue (is_some (number_at (initial_groups below) (parent_path root_path)))
unfolding number_at parent_path
root-parent below = refl

root-flag : (below : ℕ) → is_oom_group (initial_groups below) 0 ≡ false
unfolding is_oom_group group_at
root-flag below = refl

pub room_of-initial : (below : ℕ) → room_of (initial_groups below) ≡ 1 + below
unfolding room_of group_at
room_of-initial below = refl

pub AreGroups-initial : (below : ℕ) → below < most_groups → AreGroups (initial_groups below)
AreGroups-initial below few = record {
  few = omega (arith, room_of-initial below);
  room = omega (arith, room_of-initial below);
  root = (refl, refl);
  root_flag = root-flag below;
  numbers = All-one (λ (g : Group). g.number < room_of (initial_groups below)) (the_root below) (omega (arith, room_of-initial below));
  paths = All-one (λ (g : Group). IsWellFormed g.path) (the_root below) root-formed;
  depths = All-one (λ (g : Group). depth_of g.path ≤ 8) (the_root below) root-depth;
  numbers_distinct = λ i j d low lt. absurd (omega arith);
  paths_distinct = λ i j d low lt. absurd (omega arith);
  parents = All-one (λ (g : Group). IsTrue (is_some (number_at (initial_groups below) (parent_path g.path)))) (the_root below) (root-parent below);
}

-- ---- what allows a group to be made
pub record CanMake (groups : List Group) (path : List ℕ) : Type 0 where
  pub formed : IsWellFormed path
  pub below_root : is_root path ≡ false
  pub short : length path ≤ 512
  pub shallow : depth_of path ≤ 8
  pub fresh : is_some (number_at groups path) ≡ false
  pub parent : is_some (number_at groups (parent_path path)) ≡ true
  pub room : length groups < room_of groups

cond_none : {X : Type 0} (b : Bool) (x : X) (o : Option X) → cond b (Some x) o ≡ None → (b ≡ false) × (o ≡ None)
cond_none true x o e = absurd (none-some x (sym e))
cond_none false x o e = (refl, e)

not_none : {X : Type 0} (o : Option X) → is_none o ≡ false → is_some o ≡ true
not_none None e = absurd (true≢false e)
not_none (Some x) e = refl

formed-short : (path : List ℕ) → IsWellFormed path → length path ≤ 512
unfolding is_well_formed
formed-short path h =
    leb-true (length path) 512 (and_parts (leb (length path) 512) (starts_with nat_eq path root_path)
    (and_parts (leb (length path) 512 && starts_with nat_eq path root_path) (list_all is_name (names_of path)) h).0).0

pub can_make : (groups : List Group) (path : List ℕ) → make_fault groups path ≡ None → CanMake groups path
unfolding make_fault
can_make groups path e =
    let one = cond_none (not (is_well_formed path) || is_root path) _ _ e in
    let two = cond_none (nat_lt 8 (depth_of path)) _ _ one.1 in
    let three = cond_none (is_some (number_at groups path)) _ _ two.1 in
    let four = cond_none (is_none (number_at groups (parent_path path))) _ _ three.1 in
    let five = cond_none (nat_le (room_of groups) (length groups)) _ _ four.1 in
    let names = or_parts (not (is_well_formed path)) (is_root path) one.0 in
    let formed : IsWellFormed path = not-false (is_well_formed path) names.0 in
    record {
      formed = formed;
      below_root = names.1;
      short = formed-short path formed;
      shallow = ltb-false 8 (depth_of path) two.0;
      fresh = three.0;
      parent = not_none (number_at groups (parent_path path)) four.0;
      room = leb-false (room_of groups) (length groups) five.0;
    }

-- ---- one more group
find-with : {X : Type 0} (p : X → Bool) (xs : List X) (x : X) → is_some (find p xs) ≡ true → find p (xs ++ x ∷ []) ≡ find p xs
find-with p xs x h =
    let some = some_is (find p xs) h in
    find-append p xs (x ∷ []) ∙ ap (λ o. option_or o (find p (x ∷ []))) some.1 ∙ sym some.1

pub number_at-with : (groups : List Group) (g : Group) (path : List ℕ) → is_some (number_at groups path) ≡ true →
    number_at (groups ++ g ∷ []) path ≡ number_at groups path
unfolding number_at
number_at-with groups g path h =
    ap (option_map (λ (x : Group). x.number))
    (find-with (λ x. bytes_eq x.path path) groups g (sym (is_some-map (λ (x : Group). x.number) (find (λ x. bytes_eq x.path path) groups)) ∙ h))

root-with : (groups : List Group) (g : Group) → IsSomeAnd (slice_get groups 0) (λ x. (x.number ≡ 0) × (x.path ≡ root_path)) →
    IsSomeAnd (slice_get (groups ++ g ∷ []) 0) (λ x. (x.number ≡ 0) × (x.path ≡ root_path))
root-with [] g h = absurd h
root-with (x ∷ xs) g h = h

-- a new group's flag is off, and so is that of a number without a group
flag_or : (o more : Option Group) → option_map_or (λ (g : Group). g.oom_group) more false ≡ false →
    option_map_or (λ (g : Group). g.oom_group) (option_or o more) false ≡ option_map_or (λ (g : Group). g.oom_group) o false
flag_or None more off = off
flag_or (Some g) more off = refl

pub is_oom_group-with : (groups : List Group) (n k : ℕ) (path : List ℕ) → is_oom_group (with_group groups n path) k ≡ is_oom_group groups k
unfolding is_oom_group group_at
is_oom_group-with groups n k path =
    let test : Group → Bool = λ g. g.number == k in
    let new : Group = new_row n path in
    let off : option_map_or (λ (g : Group). g.oom_group) (find test (new ∷ [])) false ≡ false =
    cond_both (n == k) (Some new) None (λ o. option_map_or (λ (g : Group). g.oom_group) o false ≡ false) (λ _. refl) (λ _. refl) in
    ap (λ o. option_map_or (λ (g : Group). g.oom_group) o false) (find-append test groups (new ∷ []))
    ∙ flag_or (find test groups) (find test (new ∷ [])) off

-- a new group changes no room
room_or : (o more : Option Group) → option_map_or (λ (g : Group). g.descendants) more 0 ≡ 0 →
    option_map_or (λ (g : Group). g.descendants) (option_or o more) 0 ≡ option_map_or (λ (g : Group). g.descendants) o 0
room_or None more none = none
room_or (Some g) more none = refl

pub room_of-with : (groups : List Group) (n : ℕ) (path : List ℕ) → room_of (with_group groups n path) ≡ room_of groups
unfolding room_of group_at
room_of-with groups n path =
    let test : Group → Bool = λ g. g.number == 0 in
    let new : Group = new_row n path in
    let none : option_map_or (λ (g : Group). g.descendants) (find test (new ∷ [])) 0 ≡ 0 =
    cond_both (n == 0) (Some new) None (λ o. option_map_or (λ (g : Group). g.descendants) o 0 ≡ 0) (λ _. refl) (λ _. refl) in
    ap (λ n. 1 + n) (ap (λ o. option_map_or (λ (g : Group). g.descendants) o 0) (find-append test groups (new ∷ []))
    ∙ room_or (find test groups) (find test (new ∷ [])) none)

pub AreGroups-with : (groups : List Group) (n : ℕ) (path : List ℕ) → AreGroups groups → CanMake groups path → n < room_of groups → has_group groups n ≡ false →
    AreGroups (with_group groups n path)
AreGroups-with groups n path facts can below free =
    let g : Group = new_row n path in
    let more : length (groups ++ g ∷ []) ≡ length groups + 1 = length_push groups g in
    let same : room_of (groups ++ g ∷ []) ≡ room_of groups = room_of-with groups n path in
    record {
      few = omega (arith, can.room);
      room = omega (arith, facts.room);
      root = root-with groups g facts.root;
      root_flag = is_oom_group-with groups n 0 path ∙ facts.root_flag;
      numbers = subst (λ r. All (λ (x : Group). x.number < r) (groups ++ g ∷ [])) (sym same)
          (All-push (λ x. x.number < room_of groups) groups g facts.numbers below);
      paths = All-push (λ x. IsWellFormed x.path) groups g facts.paths can.formed;
      depths = All-push (λ x. depth_of x.path ≤ 8) groups g facts.depths can.shallow;
      numbers_distinct = all_pairs_push (λ x y. x.number ≢ y.number) groups g facts.numbers_distinct
          (λ k d lt e. eqb-false (get_or groups k d).number n
          (none_contains (λ x. x.number == n) groups (get_or groups k d) (sym (has_group-any groups n) ∙ free) (Contains-get_or groups k d lt)) e);
      paths_distinct = all_pairs_push (λ x y. x.path ≢ y.path) groups g facts.paths_distinct
          (λ k d lt e. both_ways (bytes_eq (get_or groups k d).path path)
          (none_contains (λ x. bytes_eq x.path path) groups (get_or groups k d) (sym (has_path-any groups path) ∙ can.fresh)
          (Contains-get_or groups k d lt)) ((bytes_eq-Decides (get_or groups k d).path path).1 e));
      parents = All-push (λ x. IsTrue (is_some (number_at (groups ++ g ∷ []) (parent_path x.path)))) groups g
          (All-weaker (λ x. IsTrue (is_some (number_at groups (parent_path x.path))))
          (λ x. IsTrue (is_some (number_at (groups ++ g ∷ []) (parent_path x.path))))
          (λ x h. ap is_some (number_at-with groups g (parent_path x.path) h) ∙ h) groups facts.parents)
          (ap is_some (number_at-with groups g (parent_path path) can.parent) ∙ can.parent);
    }

-- ---- one group less
pub in_subtree-parent : (groups : List Group) (g : Group) (n : ℕ) → AreGroups groups → Contains groups g →
    path_of groups n ≡ Some (parent_path g.path) → in_subtree groups n g.number ≡ true
in_subtree-parent groups g n facts h above =
    let formed : IsWellFormed g.path = All-contains (λ x. IsWellFormed x.path) groups g facts.paths h in
    let own = path_of-at groups g.number g (group_at-there groups g facts.numbers_distinct h) in
    in_subtree-paths groups n g.number (parent_path g.path) g.path above own ∙ begins_parent g.path formed

-- a path other than that of the removed group still has its group
pub number_at-without : (groups : List Group) (n : ℕ) (path : List ℕ) → AreGroups groups → (path_of groups n ≡ Some path → ⊥) →
    number_at (without_group groups n) path ≡ number_at groups path
unfolding number_at without_group
number_at-without groups n path facts other =
    ap (option_map (λ (x : Group). x.number))
    (find-filter (λ x. bytes_eq x.path path) (λ x. not (x.number == n)) groups
    (λ i d lt t. let x = get_or groups i d in
    not_from_false (x.number == n) (ne_eqb x.number n (λ e.
    other (subst (λ m. path_of groups m ≡ Some path) e
    (path_of-at groups x.number x (group_at-there groups x facts.numbers_distinct (Contains-get_or groups i d lt))
    ∙ ap Some ((bytes_eq-Decides x.path path).0 t)))))))

root-without : (groups : List Group) (n : ℕ) → n ≢ 0 → IsSomeAnd (slice_get groups 0) (λ x. (x.number ≡ 0) × (x.path ≡ root_path)) →
    IsSomeAnd (slice_get (without_group groups n) 0) (λ x. (x.number ≡ 0) × (x.path ≡ root_path))
unfolding without_group
root-without [] n other h = absurd h
root-without (x ∷ xs) n other h =
    let kept : not (x.number == n) ≡ true = not_from_false (x.number == n) (ne_eqb x.number n (λ e. other (sym e ∙ h.0))) in
    subst (λ b. IsSomeAnd (slice_get (cond b (x ∷ filter (λ g. not (g.number == n)) xs) (filter (λ g. not (g.number == n)) xs)) 0)
    (λ y. (y.number ≡ 0) × (y.path ≡ root_path))) (sym kept) h

-- the parent of each other group stays, because the removed one has no child
parents-without : (groups : List Group) (n : ℕ) → AreGroups groups → has_child groups n ≡ false →
    All (λ x. IsTrue (is_some (number_at (without_group groups n) (parent_path x.path)))) (without_group groups n)
unfolding without_group has_child
parents-without groups n facts leaf =
    let test : Group → Bool = λ x. not (x.number == n) in
    let kept : All (λ x. (Contains groups x) × IsTrue (is_some (number_at groups (parent_path x.path)))) (filter test groups) =
    All-filter test (λ x. (Contains groups x) × IsTrue (is_some (number_at groups (parent_path x.path)))) groups
    (λ k d lt. (Contains-get_or groups k d lt, facts.parents k d lt)) in
    let others : All (λ x. test x ≡ true) (filter test groups) = filter_passes test groups in
    λ k d lt.
    let x = get_or (filter test groups) k d in
    let there = kept k d lt in
    let apart : path_of groups n ≡ Some (parent_path x.path) → ⊥ =
    λ above. both_ways (test x && in_subtree groups n x.number)
    (none_contains (λ h. not (h.number == n) && in_subtree groups n h.number) groups x leaf there.0)
    (and_from (test x) (in_subtree groups n x.number) (others k d lt) (in_subtree-parent groups x n facts there.0 above)) in
    ap is_some (number_at-without groups n (parent_path x.path) facts apart) ∙ there.1

pub AreGroups-without : (groups : List Group) (n : ℕ) → AreGroups groups → has_child groups n ≡ false → n ≢ 0 → AreGroups (without_group groups n)
unfolding without_group
AreGroups-without groups n facts leaf below =
    let test : Group → Bool = λ x. not (x.number == n) in
    let same : room_of (filter test groups) ≡ room_of groups = room_of-without groups n below in
    record {
      few = omega (arith, facts.few, length-filter test groups, count_by-le-length test groups);
      room = omega (arith, facts.room);
      root = root-without groups n below facts.root;
      root_flag = is_oom_group-without groups n 0 (λ e. below (sym e)) ∙ facts.root_flag;
      numbers = subst (λ r. All (λ (x : Group). x.number < r) (filter test groups)) (sym same)
          (All-filter test (λ x. x.number < room_of groups) groups facts.numbers);
      paths = All-filter test (λ x. IsWellFormed x.path) groups facts.paths;
      depths = All-filter test (λ x. depth_of x.path ≤ 8) groups facts.depths;
      numbers_distinct = AllPairs-filter (λ x y. x.number ≢ y.number) test groups facts.numbers_distinct;
      paths_distinct = AllPairs-filter (λ x y. x.path ≢ y.path) test groups facts.paths_distinct;
      parents = parents-without groups n facts leaf;
    }

-- ---- the group just above
pub parent_of-root : (groups : List Group) (n : ℕ) → n ≡ 0 → parent_of groups n ≡ None
unfolding parent_of
parent_of-root groups n e = cond-true (n == 0) _ _ (eq-eqb n 0 e)

pub parent_of-below : (groups : List Group) (n : ℕ) (path : List ℕ) → (n ≡ 0 → ⊥) → path_of groups n ≡ Some path →
    parent_of groups n ≡ number_at groups (parent_path path)
unfolding parent_of
parent_of-below groups n path other e =
    cond-false (n == 0) _ _ (ne_eqb n 0 other) ∙ ap (option_and_then (λ p. number_at groups (parent_path p))) e

pub parent-there : (groups : List Group) (n : ℕ) (path : List ℕ) → AreGroups groups → path_of groups n ≡ Some path →
    is_some (number_at groups (parent_path path)) ≡ true
parent-there groups n path facts e =
    let h = path_of-is groups n path e in
    subst (λ p. is_some (number_at groups (parent_path p)) ≡ true) h.2
    (All-contains (λ x. IsTrue (is_some (number_at groups (parent_path x.path)))) groups h.0 facts.parents (group_at-contains groups n h.0 h.1).0)

-- ---- a change of rows
-- the change keeps each row's number, path and descendants
pub record KeepsNames (f : Group → Group) : Type 0 where
  pub number : (g : Group) → (f g).number ≡ g.number
  pub path : (g : Group) → (f g).path ≡ g.path
  pub descendants : (g : Group) → (f g).descendants ≡ g.descendants

pub list_any-map : {X : Type 0} (p : X → Bool) (f : X → X) → ((x : X) → p (f x) ≡ p x) → (xs : List X) → list_any p (map f xs) ≡ list_any p xs
list_any-map p f same [] = refl
list_any-map p f same (x ∷ xs) = ap (λ b. b || list_any p (map f xs)) (same x) ∙ ap (λ b. p x || b) (list_any-map p f same xs)

pub find-map : {X : Type 0} (p : X → Bool) (f : X → X) → ((x : X) → p (f x) ≡ p x) → (xs : List X) → find p (map f xs) ≡ option_map f (find p xs)
find-map p f same [] = refl
find-map p f same (x ∷ xs) =
    ⊎_elim
    (λ t. cond-true (p (f x)) (Some (f x)) (find p (map f xs)) (same x ∙ t) ∙ ap (option_map f) (sym (cond-true (p x) (Some x) (find p xs) t)))
    (λ n. cond-false (p (f x)) (Some (f x)) (find p (map f xs)) (same x ∙ n) ∙ find-map p f same xs
    ∙ ap (option_map f) (sym (cond-false (p x) (Some x) (find p xs) n)))
    (cases_Bool (p x))

all_pairs_map : {X : Type 0} (R : X → X → Type 0) (f : X → X) (xs : List X) → ((x y : X) → R x y → R (f x) (f y)) → AllPairs R xs → AllPairs R (map f xs)
all_pairs_map R f xs keeps h = λ i j d below lt.
    let long : j < length xs = omega (arith, length-map xs f) in
    let first : get_or (map f xs) i d ≡ f (get_or xs i d) = get_or-map f xs i d d (omega arith) in
    let second : get_or (map f xs) j d ≡ f (get_or xs j d) = get_or-map f xs j d d long in
    rw (first, second) (keeps (get_or xs i d) (get_or xs j d) (h i j d below long))

module _ (f : Group → Group) (keeps : KeepsNames f) where
  pub group_at-changed : (groups : List Group) (k : ℕ) → group_at (map f groups) k ≡ option_map f (group_at groups k)
  unfolding group_at
  group_at-changed groups k = find-map (λ (g : Group). g.number == k) f (λ g. ap (λ m. m == k) (keeps.number g)) groups

  pub room_of-changed : (groups : List Group) → room_of (map f groups) ≡ room_of groups
  unfolding room_of
  room_of-changed groups =
      ap (λ n. 1 + n) (ap (λ o. option_map_or (λ (g : Group). g.descendants) o 0) (group_at-changed groups 0) ∙ at (group_at groups 0))
    where
      at : (o : Option Group) → option_map_or (λ (g : Group). g.descendants) (option_map f o) 0 ≡ option_map_or (λ (g : Group). g.descendants) o 0
      at None = refl
      at (Some g) = keeps.descendants g

  has_path-changed : (groups : List Group) (path : List ℕ) → is_some (number_at (map f groups) path) ≡ is_some (number_at groups path)
  has_path-changed groups path =
      has_path-any (map f groups) path
      ∙ list_any-map (λ (x : Group). bytes_eq x.path path) f (λ x. ap (λ p. bytes_eq p path) (keeps.path x)) groups
      ∙ sym (has_path-any groups path)

  root-changed : (groups : List Group) → IsSomeAnd (slice_get groups 0) (λ x. (x.number ≡ 0) × (x.path ≡ root_path)) →
      IsSomeAnd (slice_get (map f groups) 0) (λ x. (x.number ≡ 0) × (x.path ≡ root_path))
  root-changed [] h = absurd h
  root-changed (x ∷ xs) h = (keeps.number x ∙ h.0, keeps.path x ∙ h.1)

  -- the root's flag must stay off as well
  pub AreGroups-changed : (groups : List Group) → AreGroups groups → is_oom_group (map f groups) 0 ≡ false → AreGroups (map f groups)
  AreGroups-changed groups facts off = record {
    few = omega (arith, facts.few, length-map groups f, room_of-changed groups);
    room = omega (arith, facts.room, room_of-changed groups);
    root = root-changed groups facts.root;
    root_flag = off;
    numbers = All-map (λ (x : Group). x.number < room_of (map f groups)) f groups
        (λ k d lt. omega (arith, keeps.number (get_or groups k d), facts.numbers k d lt, room_of-changed groups));
    paths = All-map (λ (x : Group). IsWellFormed x.path) f groups
        (λ k d lt. subst IsWellFormed (sym (keeps.path (get_or groups k d))) (facts.paths k d lt));
    depths = All-map (λ (x : Group). depth_of x.path ≤ 8) f groups
        (λ k d lt. subst (λ p. depth_of p ≤ 8) (sym (keeps.path (get_or groups k d))) (facts.depths k d lt));
    numbers_distinct = all_pairs_map (λ x y. x.number ≢ y.number) f groups
        (λ x y h e. h (sym (keeps.number x) ∙ e ∙ keeps.number y)) facts.numbers_distinct;
    paths_distinct = all_pairs_map (λ x y. x.path ≢ y.path) f groups
        (λ x y h e. h (sym (keeps.path x) ∙ e ∙ keeps.path y)) facts.paths_distinct;
    parents = All-map (λ (x : Group). IsTrue (is_some (number_at (map f groups) (parent_path x.path)))) f groups
        (λ k d lt.
        ap (λ p. is_some (number_at (map f groups) (parent_path p))) (keeps.path (get_or groups k d))
        ∙ has_path-changed groups (parent_path (get_or groups k d).path)
        ∙ facts.parents k d lt);
  }

-- if the group's row keeps its flag, the group keeps it
pub same_flag : (f : Group → Group) (groups : List Group) (k : ℕ) → KeepsNames f → ((g : Group) → group_at groups k ≡ Some g →
    (f g).oom_group ≡ g.oom_group) → is_oom_group (map f groups) k ≡ is_oom_group groups k
unfolding is_oom_group
same_flag f groups k keeps same =
    ap (λ o. option_map_or (λ (g : Group). g.oom_group) o false) (group_at-changed f keeps groups k) ∙ at (group_at groups k) refl
  where
    at : (o : Option Group) → group_at groups k ≡ o →
        option_map_or (λ (g : Group). g.oom_group) (option_map f o) false ≡ option_map_or (λ (g : Group). g.oom_group) o false
    at None e = refl
    at (Some g) e = same g e

-- ---- another limit
pub limited-number : (n : ℕ) (limit : Option ℕ) (g : Group) → (limited n limit g).number ≡ g.number
limited-number n limit g = cond_both (g.number == n) (record g { limit = limit }) g (λ (x : Group). x.number ≡ g.number) (λ _. refl) (λ _. refl)

pub limited-path : (n : ℕ) (limit : Option ℕ) (g : Group) → (limited n limit g).path ≡ g.path
limited-path n limit g = cond_both (g.number == n) (record g { limit = limit }) g (λ (x : Group). x.path ≡ g.path) (λ _. refl) (λ _. refl)

limited-flag : (n : ℕ) (limit : Option ℕ) (g : Group) → (limited n limit g).oom_group ≡ g.oom_group
limited-flag n limit g =
    cond_both (g.number == n) (record g { limit = limit }) g (λ (x : Group). x.oom_group ≡ g.oom_group) (λ _. refl) (λ _. refl)

limited-descendants : (n : ℕ) (limit : Option ℕ) (g : Group) → (limited n limit g).descendants ≡ g.descendants
limited-descendants n limit g =
    cond_both (g.number == n) (record g { limit = limit }) g (λ (x : Group). x.descendants ≡ g.descendants) (λ _. refl) (λ _. refl)

pub limited-keeps : (n : ℕ) (limit : Option ℕ) → KeepsNames (limited n limit)
limited-keeps n limit = record { number = limited-number n limit; path = limited-path n limit; descendants = limited-descendants n limit }

pub room_of-limited : (groups : List Group) (n : ℕ) (limit : Option ℕ) → room_of (with_limit groups n limit) ≡ room_of groups
unfolding with_limit
room_of-limited groups n limit = room_of-changed (limited n limit) (limited-keeps n limit) groups

pub is_oom_group-limited : (groups : List Group) (n k : ℕ) (limit : Option ℕ) → is_oom_group (with_limit groups n limit) k ≡ is_oom_group groups k
unfolding with_limit
is_oom_group-limited groups n k limit = same_flag (limited n limit) groups k (limited-keeps n limit) (λ g e. limited-flag n limit g)

pub AreGroups-limited : (groups : List Group) (n : ℕ) (limit : Option ℕ) → AreGroups groups → AreGroups (with_limit groups n limit)
unfolding with_limit
AreGroups-limited groups n limit facts =
    AreGroups-changed (limited n limit) (limited-keeps n limit) groups facts (is_oom_group-limited groups n 0 limit ∙ facts.root_flag)

pub length-limited : (groups : List Group) (n : ℕ) (limit : Option ℕ) → length (with_limit groups n limit) ≡ length groups
unfolding with_limit
length-limited groups n limit = length-map groups (limited n limit)

-- ---- another flag
pub flagged-number : (n : ℕ) (flag : Bool) (g : Group) → (flagged n flag g).number ≡ g.number
flagged-number n flag g = cond_both (g.number == n) (record g { oom_group = flag }) g (λ (x : Group). x.number ≡ g.number) (λ _. refl) (λ _. refl)

pub flagged-path : (n : ℕ) (flag : Bool) (g : Group) → (flagged n flag g).path ≡ g.path
flagged-path n flag g = cond_both (g.number == n) (record g { oom_group = flag }) g (λ (x : Group). x.path ≡ g.path) (λ _. refl) (λ _. refl)

pub flagged-limit : (n : ℕ) (flag : Bool) (g : Group) → (flagged n flag g).limit ≡ g.limit
flagged-limit n flag g = cond_both (g.number == n) (record g { oom_group = flag }) g (λ (x : Group). x.limit ≡ g.limit) (λ _. refl) (λ _. refl)

flagged-descendants : (n : ℕ) (flag : Bool) (g : Group) → (flagged n flag g).descendants ≡ g.descendants
flagged-descendants n flag g =
    cond_both (g.number == n) (record g { oom_group = flag }) g (λ (x : Group). x.descendants ≡ g.descendants) (λ _. refl) (λ _. refl)

pub flagged-keeps : (n : ℕ) (flag : Bool) → KeepsNames (flagged n flag)
flagged-keeps n flag = record { number = flagged-number n flag; path = flagged-path n flag; descendants = flagged-descendants n flag }

pub room_of-flagged : (groups : List Group) (n : ℕ) (flag : Bool) → room_of (with_oom_group groups n flag) ≡ room_of groups
unfolding with_oom_group
room_of-flagged groups n flag = room_of-changed (flagged n flag) (flagged-keeps n flag) groups

pub is_oom_group-flagged_other : (groups : List Group) (n k : ℕ) (flag : Bool) → k ≢ n →
    is_oom_group (with_oom_group groups n flag) k ≡ is_oom_group groups k
unfolding with_oom_group
is_oom_group-flagged_other groups n k flag other = same_flag (flagged n flag) groups k (flagged-keeps n flag)
    (λ g e. ap (λ (x : Group). x.oom_group) (cond-false (g.number == n) (record g { oom_group = flag }) g
    (ne_eqb g.number n (λ same. other (sym (group_at-contains groups k g e).1 ∙ same)))))

pub is_oom_group-flagged : (groups : List Group) (n : ℕ) (flag : Bool) → IsTrue (has_group groups n) → is_oom_group (with_oom_group groups n flag) n ≡ flag
unfolding is_oom_group with_oom_group
is_oom_group-flagged groups n flag there =
    let w = has_group-is groups n there in
    let number = (group_at-contains groups n w.0 w.1).1 in
    ap (λ o. option_map_or (λ (g : Group). g.oom_group) o false)
    (group_at-changed (flagged n flag) (flagged-keeps n flag) groups n ∙ ap (option_map (flagged n flag)) w.1)
    ∙ ap (λ (g : Group). g.oom_group) (cond-true (w.0.number == n) (record w.0 { oom_group = flag }) w.0 (eq-eqb w.0.number n number))

pub AreGroups-flagged : (groups : List Group) (n : ℕ) (flag : Bool) → AreGroups groups → n ≢ 0 → AreGroups (with_oom_group groups n flag)
unfolding with_oom_group
AreGroups-flagged groups n flag facts other =
    AreGroups-changed (flagged n flag) (flagged-keeps n flag) groups facts
    (is_oom_group-flagged_other groups n 0 flag (λ e. other (sym e)) ∙ facts.root_flag)

pub length-flagged : (groups : List Group) (n : ℕ) (flag : Bool) → length (with_oom_group groups n flag) ≡ length groups
unfolding with_oom_group
length-flagged groups n flag = length-map groups (flagged n flag)

-- a list written over all of another
pub take_new : {X : Type 0} (n : ℕ) (xs ys : List X) → length ys ≡ length xs → n ≡ length xs → take n (ys ++ drop (length ys) xs) ≡ ys
take_new n xs ys size e = take_at ys (drop (length ys) xs) n (size ∙ sym e)
