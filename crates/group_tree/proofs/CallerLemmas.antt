-- Laws of the tree's definitions. Serves the walks and crates above: look here first for a law to cite.
use Rattle.std.proofs.Common.{◌≡◌, ◌≢◌, ℕ, zero, suc, ◌+◌, ◌<◌, ◌≤◌, Bool, true, false, ◌==◌, IsTrue, Option, Some, None, is_some, List}
use Rattle.std.proofs.Common.{[], ◌∷◌, ◌++◌, length, map, drop, slice_get, IsSomeAnd, Contains, refl, sym, ap, ◌∙◌, subst, arith, inl, inr, ⊎_elim}
use Rattle.std.proofs.Common.{◌⊎◌, filter, not, length-append}
use Rattle.std.specs.List.{find, list_any, starts_with}
use Rattle.std.specs.Option.{option_map, option_map_or, option_and_then, option_or}
use Rattle.std.specs.Str.{bytes_eq}
use Rattle.std.proofs.lemmas.Bool.{eq-eqb, ne_eqb, both_ways, cases_Bool, cases_eq, cases_lt, true≢false, false≢true, false_from_ne_true}
use Rattle.std.proofs.lemmas.Bool.{cond-true, cond-false}
use Rattle.std.proofs.lemmas.List.{append_assoc, append-nil, nil_from_length}
use Rattle.std.proofs.lemmas.List.Elements.{All-contains}
use Rattle.std.proofs.lemmas.List.Folds.{find-append}
use Rattle.std.proofs.lemmas.Option.{none-some, same_Some}
use Rattle.group_tree.specs.Bounds.{most_groups}
use Rattle.group_tree.specs.Path.{root_path, is_root, names_of, depth_of, parent_path, IsWellFormed}
use Rattle.group_tree.specs.Groups.{Group, group_at, number_at, has_group, path_of, limit_of, begins, in_subtree, parent_of, with_group}
use Rattle.group_tree.specs.Groups.{new_row, without_group, with_limit, limited, with_oom_group, flagged, is_oom_group, room_of, AreGroups}
use Rattle.group_tree.proofs.PathLemmas.{begins_names, begins_from_names, begins_from_well_formed, slashed, slashed-names, has_name, names-root}
use Rattle.group_tree.proofs.PathLemmas.{root-from_test, names_parent, begins_parent, begins_root}
use Rattle.group_tree.proofs.GroupLemmas.{CanMake, some_is, is_some-map, has_group-any, has_group-is, group_at-contains, group_at-there}
use Rattle.group_tree.proofs.GroupLemmas.{number_at-contains, number_at-there, path_of-at, path_of-is, path_of-formed, in_subtree-paths}
use Rattle.group_tree.proofs.GroupLemmas.{parent_of-below, parent_of-root, group_at-without, KeepsNames, group_at-changed, limited-keeps}
use Rattle.group_tree.proofs.GroupLemmas.{flagged-keeps, flagged-limit, is_oom_group-with}

-- ---- subtrees
-- the two groups of a pair in the relation, with the names that the lower one has more
pub record Subtree (groups : List Group) (g h : ℕ) : Type 0 where
  pub above : List ℕ
  pub below : List ℕ
  pub more : List (List ℕ)
  pub path_above : path_of groups g ≡ Some above
  pub path_below : path_of groups h ≡ Some below
  pub names : names_of below ≡ names_of above ++ more

begins_both : (a b : Option (List ℕ)) → begins a b ≡ true →
    (x : List ℕ) × (y : List ℕ) × (a ≡ Some x) × (b ≡ Some y) × (starts_with bytes_eq (names_of y) (names_of x) ≡ true)
begins_both None b e = absurd (false≢true e)
begins_both (Some x) None e = absurd (false≢true e)
begins_both (Some x) (Some y) e = (x, y, refl, refl, e)

pub in_subtree-is : (groups : List Group) (g h : ℕ) → in_subtree groups g h ≡ true → Subtree groups g h
unfolding in_subtree
in_subtree-is groups g h e =
    let w = begins_both (path_of groups g) (path_of groups h) e in
    record {
      above = w.0;
      below = w.1;
      more = drop (length (names_of w.0)) (names_of w.1);
      path_above = w.2;
      path_below = w.3;
      names =
          begins_names (names_of w.1) (names_of w.0) w.4;
    }

pub in_subtree-from : (groups : List Group) (g h : ℕ) → Subtree groups g h → in_subtree groups g h ≡ true
in_subtree-from groups g h s =
    in_subtree-paths groups g h s.above s.below s.path_above s.path_below ∙ begins_from_names (names_of s.below) (names_of s.above) s.more s.names

pub path_of-there : (groups : List Group) (g : ℕ) → IsTrue (has_group groups g) → (path : List ℕ) × (path_of groups g ≡ Some path)
path_of-there groups g h = let w = has_group-is groups g h in (w.0.path, path_of-at groups g w.0 w.1)

-- the number of a group that is there is below the tree's room, and so below the most groups
pub number_in_room : (groups : List Group) (g : ℕ) → AreGroups groups → IsTrue (has_group groups g) → g < room_of groups
number_in_room groups g facts there =
    let w = has_group-is groups g there in
    let c = group_at-contains groups g w.0 w.1 in
    subst (λ k. k < room_of groups) c.1 (All-contains (λ (x : Group). x.number < room_of groups) groups w.0 facts.numbers c.0)

pub number_below : (groups : List Group) (g : ℕ) → AreGroups groups → IsTrue (has_group groups g) → g < most_groups
number_below groups g facts there = omega (arith, number_in_room groups g facts there, facts.room)

pub has_group-path : (groups : List Group) (g : ℕ) (path : List ℕ) → path_of groups g ≡ Some path → IsTrue (has_group groups g)
unfolding has_group
has_group-path groups g path e = let w = path_of-is groups g path e in ap is_some w.1

-- both groups exist
pub in_subtree-above : (groups : List Group) (g h : ℕ) → in_subtree groups g h ≡ true → IsTrue (has_group groups g)
in_subtree-above groups g h e = let s = in_subtree-is groups g h e in has_group-path groups g s.above s.path_above

pub in_subtree-below : (groups : List Group) (g h : ℕ) → in_subtree groups g h ≡ true → IsTrue (has_group groups h)
in_subtree-below groups g h e = let s = in_subtree-is groups g h e in has_group-path groups h s.below s.path_below

-- each group is in its own subtree
pub in_subtree-refl : (groups : List Group) (g : ℕ) → IsTrue (has_group groups g) → in_subtree groups g g ≡ true
in_subtree-refl groups g h =
    let w = path_of-there groups g h in
    in_subtree-from groups g g (record { above = w.0; below = w.0; more = []; path_above = w.1; path_below = w.1; names = sym (append-nil (names_of w.0)) })

pub in_subtree-trans : (groups : List Group) (f g h : ℕ) → in_subtree groups f g ≡ true → in_subtree groups g h ≡ true → in_subtree groups f h ≡ true
in_subtree-trans groups f g h a b =
    let s = in_subtree-is groups f g a in
    let t = in_subtree-is groups g h b in
    let same : s.below ≡ t.above = same_Some s.below t.above (sym s.path_below ∙ t.path_above) in
    in_subtree-from groups f h (record {
      above = s.above;
      below = t.below;
      more = s.more ++ t.more;
      path_above = s.path_above;
      path_below = t.path_below;
      names = t.names ∙ ap (λ p. names_of p ++ t.more) (sym same) ∙ ap (λ ns. ns ++ t.more) s.names ∙ append_assoc (names_of s.above) s.more t.more;
    })

root-first : (groups : List Group) → IsSomeAnd (slice_get groups 0) (λ x. (x.number ≡ 0) × (x.path ≡ root_path)) →
    (g : Group) × Contains groups g × (g.number ≡ 0) × (g.path ≡ root_path)
root-first [] h = absurd h
root-first (x ∷ xs) h = (x, (0, omega arith, refl), h.0, h.1)

pub root_path_of : (groups : List Group) → AreGroups groups → path_of groups 0 ≡ Some root_path
root_path_of groups facts =
    let r = root-first groups facts.root in
    let there : group_at groups 0 ≡ Some r.0 = subst (λ n. group_at groups n ≡ Some r.0) r.2 (group_at-there groups r.0 facts.numbers_distinct r.1) in
    path_of-at groups 0 r.0 there ∙ ap Some r.3

-- every group is in the root's subtree
pub in_subtree-root : (groups : List Group) (h : ℕ) → AreGroups groups → IsTrue (has_group groups h) → in_subtree groups 0 h ≡ true
in_subtree-root groups h facts there =
    let w = path_of-there groups h there in
    let root = root_path_of groups facts in
    in_subtree-paths groups 0 h root_path w.0 root w.1 ∙ begins_root root_path w.0 refl

-- ---- one pair of groups decides the other
names-injective : (a b : List ℕ) → IsWellFormed a → IsWellFormed b → names_of a ≡ names_of b → a ≡ b
names-injective a b x y e =
    ⊎_elim
    (λ ra. ⊎_elim
    (λ rb. root-from_test a ra ∙ sym (root-from_test b rb))
    (λ nb. let some = has_name b nb (begins_from_well_formed b y) in let none : length (names_of b) ≡ 0 = ap length (sym e ∙ names-root a ra) in
    absurd (omega arith))
    (cases_Bool (is_root b)))
    (λ na. ⊎_elim
    (λ rb. let some = has_name a na (begins_from_well_formed a x) in let none : length (names_of a) ≡ 0 = ap length (e ∙ names-root b rb) in
    absurd (omega arith))
    (λ nb. sym (slashed-names a na (begins_from_well_formed a x)) ∙ ap slashed e ∙ slashed-names b nb (begins_from_well_formed b y))
    (cases_Bool (is_root b)))
    (cases_Bool (is_root a))

same_number : (groups : List Group) (g h : ℕ) (path : List ℕ) → AreGroups groups → path_of groups g ≡ Some path → path_of groups h ≡ Some path → g ≡ h
same_number groups g h path facts a b =
    let u = path_of-is groups g path a in
    let v = path_of-is groups h path b in
    let c = group_at-contains groups g u.0 u.1 in
    let d = group_at-contains groups h v.0 v.1 in
    let first : number_at groups path ≡ Some g =
    subst (λ p. number_at groups p ≡ Some g) u.2 (number_at-there groups u.0 facts.paths_distinct c.0 ∙ ap Some c.1) in
    let second : number_at groups path ≡ Some h =
    subst (λ p. number_at groups p ≡ Some h) v.2 (number_at-there groups v.0 facts.paths_distinct d.0 ∙ ap Some d.1) in
    same_Some g h (sym first ∙ second)

-- two groups in one another's subtree are one
pub in_subtree-antisym : (groups : List Group) (g h : ℕ) → AreGroups groups → in_subtree groups g h ≡ true → in_subtree groups h g ≡ true → g ≡ h
in_subtree-antisym groups g h facts a b =
    let s = in_subtree-is groups g h a in
    let t = in_subtree-is groups h g b in
    let up : s.below ≡ t.above = same_Some s.below t.above (sym s.path_below ∙ t.path_above) in
    let down : s.above ≡ t.below = same_Some s.above t.below (sym s.path_above ∙ t.path_below) in
    let one : length (names_of s.below) ≡ length (names_of s.above) + length s.more = ap length s.names ∙ length-append (names_of s.above) s.more in
    let two : length (names_of t.below) ≡ length (names_of t.above) + length t.more = ap length t.names ∙ length-append (names_of t.above) t.more in
    let three : length (names_of s.below) ≡ length (names_of t.above) = ap (λ p. length (names_of p)) up in
    let four : length (names_of s.above) ≡ length (names_of t.below) = ap (λ p. length (names_of p)) down in
    let none : s.more ≡ [] = nil_from_length s.more (omega arith) in
    let names : names_of s.below ≡ names_of s.above = s.names ∙ ap (λ m. names_of s.above ++ m) none ∙ append-nil (names_of s.above) in
    let same : s.below ≡ s.above = names-injective s.below s.above (path_of-formed groups h s.below facts.paths s.path_below)
    (path_of-formed groups g s.above facts.paths s.path_above) names in
    same_number groups g h s.above facts s.path_above (s.path_below ∙ ap Some same)

le_or_lt : (a b : ℕ) → (a ≤ b) ⊎ (b < a)
le_or_lt a b = ⊎_elim (λ lt. inr lt) (λ le. inl le) (cases_lt b a)

-- two lists that begin one list begin one another
front_front : (a b x y : List (List ℕ)) → a ++ x ≡ b ++ y → length a ≤ length b → (m : List (List ℕ)) × (b ≡ a ++ m)
front_front [] b x y e h = (b, refl)
front_front (n ∷ ns) [] x y e h = absurd (omega arith)
front_front (n ∷ ns) (k ∷ ks) x y e h =
    let head : n ≡ k = cc in
    let tail : ns ++ x ≡ ks ++ y = cc in
    let w = front_front ns ks x y tail (omega arith) in
    (w.0, ap (λ z. z ∷ ks) (sym head) ∙ ap (λ z. n ∷ z) w.1)

-- of two groups above a third, one is above the other
pub either_above : (groups : List Group) (f g h : ℕ) → in_subtree groups f h ≡ true → in_subtree groups g h ≡ true →
    (in_subtree groups f g ≡ true) ⊎ (in_subtree groups g f ≡ true)
either_above groups f g h a b =
    let s = in_subtree-is groups f h a in
    let t = in_subtree-is groups g h b in
    let same : s.below ≡ t.below = same_Some s.below t.below (sym s.path_below ∙ t.path_below) in
    let fronts : names_of s.above ++ s.more ≡ names_of t.above ++ t.more = sym s.names ∙ ap names_of same ∙ t.names in
    ⊎_elim
    (λ le.
    let m = front_front (names_of s.above) (names_of t.above) s.more t.more fronts le in
    inl (in_subtree-from groups f g
    (record { above = s.above; below = t.above; more = m.0; path_above = s.path_above; path_below = t.path_above; names = m.1 })))
    (λ lt.
    let m = front_front (names_of t.above) (names_of s.above) t.more s.more (sym fronts) (omega arith) in
    inr (in_subtree-from groups g f
    (record { above = t.above; below = s.above; more = m.0; path_above = t.path_above; path_below = s.path_above; names = m.1 })))
    (le_or_lt (length (names_of s.above)) (length (names_of t.above)))

-- ---- what a change leaves
or-none : {X : Type 0} (o : Option X) → option_or o None ≡ o
or-none None = refl
or-none (Some x) = refl

no_some : {X : Type 0} (o : Option X) → is_some o ≡ false → o ≡ None
no_some None e = refl
no_some (Some x) e = absurd (true≢false e)

other_limit : (groups : List Group) (n k : ℕ) (limit : Option ℕ) (o : Option Group) → group_at groups k ≡ o → k ≢ n →
    option_and_then (λ (g : Group). g.limit) (option_map (limited n limit) o) ≡ option_and_then (λ (g : Group). g.limit) o
other_limit groups n k limit None e other = refl
other_limit groups n k limit (Some g) e other =
    ap (λ (x : Group). x.limit) (cond-false (g.number == n) (record g { limit = limit }) g
    (ne_eqb g.number n (λ same. other (sym (group_at-contains groups k g e).1 ∙ same))))

pub group_at-with : (groups : List Group) (n k : ℕ) (path : List ℕ) → k ≢ n → group_at (with_group groups n path) k ≡ group_at groups k
unfolding group_at
group_at-with groups n k path other =
    let new : Group = new_row n path in
    let none : find (λ (g : Group). g.number == k) (new ∷ []) ≡ None = cond-false (n == k) (Some new) None (ne_eqb n k (λ e. other (sym e))) in
    find-append (λ (g : Group). g.number == k) groups (new ∷ []) ∙ ap (option_or (find (λ (g : Group). g.number == k) groups)) none
    ∙ or-none (find (λ (g : Group). g.number == k) groups)

pub group_at-with_new : (groups : List Group) (n : ℕ) (path : List ℕ) → has_group groups n ≡ false →
    group_at (with_group groups n path) n ≡ Some (new_row n path)
unfolding group_at has_group
group_at-with_new groups n path free =
    let new : Group = new_row n path in
    let here : find (λ (g : Group). g.number == n) (new ∷ []) ≡ Some new = cond-true (n == n) (Some new) None (eq-eqb n n refl) in
    find-append (λ (g : Group). g.number == n) groups (new ∷ [])
    ∙ ap (λ o. option_or o (find (λ (g : Group). g.number == n) (new ∷ []))) (no_some (find (λ (g : Group). g.number == n) groups) free) ∙ here

path_of-as : (groups others : List Group) (k : ℕ) → group_at groups k ≡ group_at others k → path_of groups k ≡ path_of others k
unfolding path_of
path_of-as groups others k e = ap (option_map (λ (g : Group). g.path)) e

limit_of-as : (groups others : List Group) (k : ℕ) → group_at groups k ≡ group_at others k → limit_of groups k ≡ limit_of others k
unfolding limit_of
limit_of-as groups others k e = ap (option_and_then (λ (g : Group). g.limit)) e

has_group-as : (groups others : List Group) (k : ℕ) → group_at groups k ≡ group_at others k → has_group groups k ≡ has_group others k
unfolding has_group
has_group-as groups others k e = ap is_some e

in_subtree-as : (groups others : List Group) (g h : ℕ) → path_of groups g ≡ path_of others g → path_of groups h ≡ path_of others h →
    in_subtree groups g h ≡ in_subtree others g h
unfolding in_subtree
in_subtree-as groups others g h a b = ap (λ o. begins o (path_of groups h)) a ∙ ap (begins (path_of others g)) b

-- making a group leaves all others; `is_oom_group-with` of GroupLemmas has the flags
pub has_group-with : (groups : List Group) (n k : ℕ) (path : List ℕ) → k ≢ n → has_group (with_group groups n path) k ≡ has_group groups k
has_group-with groups n k path other = has_group-as (with_group groups n path) groups k (group_at-with groups n k path other)

pub path_of-with : (groups : List Group) (n k : ℕ) (path : List ℕ) → k ≢ n → path_of (with_group groups n path) k ≡ path_of groups k
path_of-with groups n k path other = path_of-as (with_group groups n path) groups k (group_at-with groups n k path other)

pub limit_of-with : (groups : List Group) (n k : ℕ) (path : List ℕ) → k ≢ n → limit_of (with_group groups n path) k ≡ limit_of groups k
limit_of-with groups n k path other = limit_of-as (with_group groups n path) groups k (group_at-with groups n k path other)

pub in_subtree-with : (groups : List Group) (n g h : ℕ) (path : List ℕ) → g ≢ n → h ≢ n → in_subtree (with_group groups n path) g h ≡ in_subtree groups g h
in_subtree-with groups n g h path a b = in_subtree-as (with_group groups n path) groups g h (path_of-with groups n g path a) (path_of-with groups n h path b)

-- the new group exists, with its path and no limit
pub has_group-with_new : (groups : List Group) (n : ℕ) (path : List ℕ) → has_group groups n ≡ false → IsTrue (has_group (with_group groups n path) n)
unfolding has_group
has_group-with_new groups n path free = ap is_some (group_at-with_new groups n path free)

pub path_of-with_new : (groups : List Group) (n : ℕ) (path : List ℕ) → has_group groups n ≡ false → path_of (with_group groups n path) n ≡ Some path
unfolding path_of
path_of-with_new groups n path free = ap (option_map (λ (g : Group). g.path)) (group_at-with_new groups n path free)

pub limit_of-with_new : (groups : List Group) (n : ℕ) (path : List ℕ) → has_group groups n ≡ false → limit_of (with_group groups n path) n ≡ None
unfolding limit_of
limit_of-with_new groups n path free = ap (option_and_then (λ (g : Group). g.limit)) (group_at-with_new groups n path free)

-- ---- a change of rows that keeps numbers and paths
map-same_path : (f : Group → Group) → KeepsNames f → (o : Option Group) →
    option_map (λ (g : Group). g.path) (option_map f o) ≡ option_map (λ (g : Group). g.path) o
map-same_path f keeps None = refl
map-same_path f keeps (Some g) = ap Some (keeps.path g)

map-same_limit : (f : Group → Group) → ((g : Group) → (f g).limit ≡ g.limit) → (o : Option Group) →
    option_and_then (λ (g : Group). g.limit) (option_map f o) ≡ option_and_then (λ (g : Group). g.limit) o
map-same_limit f same None = refl
map-same_limit f same (Some g) = same g

module _ (f : Group → Group) (keeps : KeepsNames f) where
  pub has_group-changed : (groups : List Group) (k : ℕ) → has_group (map f groups) k ≡ has_group groups k
  unfolding has_group
  has_group-changed groups k = ap is_some (group_at-changed f keeps groups k) ∙ is_some-map f (group_at groups k)

  pub path_of-changed : (groups : List Group) (k : ℕ) → path_of (map f groups) k ≡ path_of groups k
  unfolding path_of
  path_of-changed groups k =
      ap (option_map (λ (g : Group). g.path)) (group_at-changed f keeps groups k) ∙ map-same_path f keeps (group_at groups k)

  pub in_subtree-changed : (groups : List Group) (g h : ℕ) → in_subtree (map f groups) g h ≡ in_subtree groups g h
  in_subtree-changed groups g h = in_subtree-as (map f groups) groups g h (path_of-changed groups g) (path_of-changed groups h)

  pub limit_of-changed : (groups : List Group) (k : ℕ) → ((g : Group) → (f g).limit ≡ g.limit) → limit_of (map f groups) k ≡ limit_of groups k
  unfolding limit_of
  limit_of-changed groups k same =
      ap (option_and_then (λ (g : Group). g.limit)) (group_at-changed f keeps groups k) ∙ map-same_limit f same (group_at groups k)

-- a limit changes no path and no other group's limit
pub group_at-limited : (groups : List Group) (n k : ℕ) (limit : Option ℕ) →
    group_at (with_limit groups n limit) k ≡ option_map (limited n limit) (group_at groups k)
unfolding with_limit
group_at-limited groups n k limit = group_at-changed (limited n limit) (limited-keeps n limit) groups k

pub has_group-limited : (groups : List Group) (n k : ℕ) (limit : Option ℕ) → has_group (with_limit groups n limit) k ≡ has_group groups k
unfolding with_limit
has_group-limited groups n k limit = has_group-changed (limited n limit) (limited-keeps n limit) groups k

pub in_subtree-limited : (groups : List Group) (n g h : ℕ) (limit : Option ℕ) → in_subtree (with_limit groups n limit) g h ≡ in_subtree groups g h
unfolding with_limit
in_subtree-limited groups n g h limit = in_subtree-changed (limited n limit) (limited-keeps n limit) groups g h

pub limit_of-limited_other : (groups : List Group) (n k : ℕ) (limit : Option ℕ) → k ≢ n → limit_of (with_limit groups n limit) k ≡ limit_of groups k
unfolding limit_of
limit_of-limited_other groups n k limit other =
    ap (option_and_then (λ (g : Group). g.limit)) (group_at-limited groups n k limit) ∙ other_limit groups n k limit (group_at groups k) refl other

pub limit_of-limited : (groups : List Group) (n : ℕ) (limit : Option ℕ) → IsTrue (has_group groups n) → limit_of (with_limit groups n limit) n ≡ limit
unfolding limit_of
limit_of-limited groups n limit there =
    let w = has_group-is groups n there in
    let number = (group_at-contains groups n w.0 w.1).1 in
    ap (option_and_then (λ (g : Group). g.limit)) (group_at-limited groups n n limit ∙ ap (option_map (limited n limit)) w.1)
    ∙ ap (λ (g : Group). g.limit) (cond-true (w.0.number == n) (record w.0 { limit = limit }) w.0 (eq-eqb w.0.number n number))

-- a flag changes no path and no limit
pub has_group-flagged : (groups : List Group) (n k : ℕ) (flag : Bool) → has_group (with_oom_group groups n flag) k ≡ has_group groups k
unfolding with_oom_group
has_group-flagged groups n k flag = has_group-changed (flagged n flag) (flagged-keeps n flag) groups k

pub in_subtree-flagged : (groups : List Group) (n g h : ℕ) (flag : Bool) → in_subtree (with_oom_group groups n flag) g h ≡ in_subtree groups g h
unfolding with_oom_group
in_subtree-flagged groups n g h flag = in_subtree-changed (flagged n flag) (flagged-keeps n flag) groups g h

pub limit_of-flagged : (groups : List Group) (n k : ℕ) (flag : Bool) → limit_of (with_oom_group groups n flag) k ≡ limit_of groups k
unfolding with_oom_group
limit_of-flagged groups n k flag = limit_of-changed (flagged n flag) (flagged-keeps n flag) groups k (flagged-limit n flag)

-- removing a group leaves all others
pub has_group-without : (groups : List Group) (n k : ℕ) → k ≢ n → has_group (without_group groups n) k ≡ has_group groups k
has_group-without groups n k other = has_group-as (without_group groups n) groups k (group_at-without groups n k other)

-- a removed group is gone
any_without : (n : ℕ) (xs : List Group) → list_any (λ g. g.number == n) (filter (λ g. not (g.number == n)) xs) ≡ false
any_without n [] = refl
any_without n (x ∷ xs) =
    elim (cases_Bool (x.number == n)) [
      | inl e ↦ rw e (any_without n xs)
      | inr e ↦ rw (e, e) (any_without n xs)
    ]

pub has_group-without_own : (groups : List Group) (n : ℕ) → has_group (without_group groups n) n ≡ false
unfolding without_group
has_group-without_own groups n = has_group-any (without_group groups n) n ∙ any_without n groups

pub path_of-without : (groups : List Group) (n k : ℕ) → k ≢ n → path_of (without_group groups n) k ≡ path_of groups k
path_of-without groups n k other = path_of-as (without_group groups n) groups k (group_at-without groups n k other)

pub limit_of-without : (groups : List Group) (n k : ℕ) → k ≢ n → limit_of (without_group groups n) k ≡ limit_of groups k
limit_of-without groups n k other = limit_of-as (without_group groups n) groups k (group_at-without groups n k other)

pub in_subtree-without : (groups : List Group) (n g h : ℕ) → g ≢ n → h ≢ n → in_subtree (without_group groups n) g h ≡ in_subtree groups g h
in_subtree-without groups n g h a b = in_subtree-as (without_group groups n) groups g h (path_of-without groups n g a) (path_of-without groups n h b)

-- ---- flags
no_flag : (o : Option Group) → is_some o ≡ false → option_map_or (λ (g : Group). g.oom_group) o false ≡ false
no_flag None none = refl
no_flag (Some g) none = absurd (true≢false none)

-- a number without a group has its flag off, and so has a new group
pub is_oom_group-none : (groups : List Group) (n : ℕ) → has_group groups n ≡ false → is_oom_group groups n ≡ false
unfolding is_oom_group has_group
is_oom_group-none groups n none = no_flag (group_at groups n) none

pub is_oom_group-with_new : (groups : List Group) (n : ℕ) (path : List ℕ) → has_group groups n ≡ false → is_oom_group (with_group groups n path) n ≡ false
is_oom_group-with_new groups n path free = is_oom_group-with groups n n path ∙ is_oom_group-none groups n free

-- ---- the parent, and the place of a new group
above_last : (a b more front : List (List ℕ)) (name : List ℕ) → b ≡ a ++ more → b ≡ front ++ name ∷ [] →
    (a ≡ b) ⊎ ((rest : List (List ℕ)) × (front ≡ a ++ rest))
above_last a b more front name x y =
    let one : length b ≡ length a + length more = ap length x ∙ length-append a more in
    let two : length b ≡ length front + 1 = ap length y ∙ length-append front (name ∷ []) in
    ⊎_elim
    (λ le. inr (front_front a front more (name ∷ []) (sym x ∙ y) le))
    (λ lt. let none : more ≡ [] = nil_from_length more (omega arith) in inl (sym (x ∙ ap (λ m. a ++ m) none ∙ append-nil a)))
    (le_or_lt (length a) (length front))

parent_of-none : (groups : List Group) (h : ℕ) → (h ≡ 0 → ⊥) → path_of groups h ≡ None → parent_of groups h ≡ None
unfolding parent_of
parent_of-none groups h other e =
    cond-false (h == 0) _ _ (ne_eqb h 0 other) ∙ ap (option_and_then (λ p. number_at groups (parent_path p))) e

parent_of-cases : (groups : List Group) (h p : ℕ) (o : Option (List ℕ)) → path_of groups h ≡ o → (h ≡ 0 → ⊥) → parent_of groups h ≡ Some p →
    (path : List ℕ) × (path_of groups h ≡ Some path) × (number_at groups (parent_path path) ≡ Some p)
parent_of-cases groups h p None w other e = absurd (none-some p (sym (parent_of-none groups h other w) ∙ e))
parent_of-cases groups h p (Some path) w other e = (path, w, sym (parent_of-below groups h path other w) ∙ e)

parent_of-is : (groups : List Group) (h p : ℕ) → parent_of groups h ≡ Some p →
    (path : List ℕ) × (path_of groups h ≡ Some path) × (number_at groups (parent_path path) ≡ Some p)
parent_of-is groups h p e =
    ⊎_elim
    (λ zero. absurd (none-some p (sym (parent_of-root groups h zero) ∙ e)))
    (λ other. parent_of-cases groups h p (path_of groups h) refl other e)
    (cases_eq h 0)

-- the parent of a group has it in its subtree
pub in_subtree-parent_of : (groups : List Group) (h p : ℕ) → AreGroups groups → parent_of groups h ≡ Some p → in_subtree groups p h ≡ true
in_subtree-parent_of groups h p facts e =
    let w = parent_of-is groups h p e in
    let q = number_at-contains groups (parent_path w.0) p w.2 in
    let there = path_of-at groups q.0.number q.0 (group_at-there groups q.0 facts.numbers_distinct q.1) in
    let above : path_of groups p ≡ Some (parent_path w.0) = ap (path_of groups) (sym q.3) ∙ there ∙ ap Some q.2 in
    in_subtree-paths groups p h (parent_path w.0) w.0 above w.1 ∙ begins_parent w.0 (path_of-formed groups h w.0 facts.paths w.1)

-- a group with h in its subtree is h, or has h's parent in its subtree
pub in_subtree-above_parent : (groups : List Group) (g h p : ℕ) → AreGroups groups → parent_of groups h ≡ Some p → in_subtree groups g h ≡ true →
    (g ≡ h) ⊎ (in_subtree groups g p ≡ true)
in_subtree-above_parent groups g h p facts e t =
    let w = parent_of-is groups h p e in
    let q = number_at-contains groups (parent_path w.0) p w.2 in
    let there = path_of-at groups q.0.number q.0 (group_at-there groups q.0 facts.numbers_distinct q.1) in
    let above : path_of groups p ≡ Some (parent_path w.0) = ap (path_of groups) (sym q.3) ∙ there ∙ ap Some q.2 in
    let s = in_subtree-is groups g h t in
    let same : s.below ≡ w.0 = same_Some s.below w.0 (sym s.path_below ∙ w.1) in
    let formed = path_of-formed groups h w.0 facts.paths w.1 in
    ⊎_elim
    (λ root.
    let only : w.0 ≡ root_path = root-from_test w.0 root in
    let zero : h ≡ 0 = same_number groups h 0 root_path facts (w.1 ∙ ap Some only) (root_path_of groups facts) in
    absurd (none-some p (sym (parent_of-root groups h zero) ∙ e)))
    (λ below.
    let n = names_parent w.0 formed below in
    ⊎_elim
    (λ whole.
    let path : s.above ≡ w.0 = names-injective s.above w.0 (path_of-formed groups g s.above facts.paths s.path_above) formed (whole ∙ ap names_of same) in
    inl (same_number groups g h w.0 facts (s.path_above ∙ ap Some path) w.1))
    (λ front. inr (in_subtree-from groups g p
    (record { above = s.above; below = parent_path w.0; more = front.0; path_above = s.path_above; path_below = above; names = front.1 })))
    (above_last (names_of s.above) (names_of s.below) s.more (names_of (parent_path w.0)) n.0 s.names (ap names_of same ∙ n.1)))
    (cases_Bool (is_root w.0))

-- no group lies below a path that no group has
none_below : (groups : List Group) (path : List ℕ) → AreGroups groups → IsWellFormed path → is_root path ≡ false →
    is_some (number_at groups path) ≡ false → (k : ℕ) (r : Group) (more : List (List ℕ)) → Contains groups r → length (names_of r.path) ≤ k →
    names_of r.path ≡ names_of path ++ more → ⊥
none_below groups path facts formed below fresh zero r more here le e =
    let some = has_name path below (begins_from_well_formed path formed) in
    let size : length (names_of r.path) ≡ length (names_of path) + length more = ap length e ∙ length-append (names_of path) more in
    omega arith
none_below groups path facts formed below fresh (suc k) r more here le e =
    let some = has_name path below (begins_from_well_formed path formed) in
    let size : length (names_of r.path) ≡ length (names_of path) + length more = ap length e ∙ length-append (names_of path) more in
    let own : IsWellFormed r.path = All-contains (λ x. IsWellFormed x.path) groups r facts.paths here in
    let low : is_root r.path ≡ false = false_from_ne_true (is_root r.path)
    (λ t. let none : length (names_of r.path) ≡ 0 = ap length (names-root r.path t) in omega arith) in
    let n = names_parent r.path own low in
    ⊎_elim
    (λ whole.
    let same : path ≡ r.path = names-injective path r.path formed own whole in
    both_ways (is_some (number_at groups path)) fresh (ap (λ p. is_some (number_at groups p)) same
    ∙ ap is_some (number_at-there groups r facts.paths_distinct here)))
    (λ front.
    let up = some_is (number_at groups (parent_path r.path))
    (All-contains (λ x. IsTrue (is_some (number_at groups (parent_path x.path)))) groups r facts.parents here) in
    let q = number_at-contains groups (parent_path r.path) up.0 up.1 in
    let names : names_of q.0.path ≡ names_of path ++ front.0 = ap names_of q.2 ∙ front.1 in
    let shorter : length (names_of r.path) ≡ length (names_of (parent_path r.path)) + 1 = ap length n.1
    ∙ length-append (names_of (parent_path r.path)) (n.0 ∷ []) in
    let less : length (names_of q.0.path) ≡ length (names_of (parent_path r.path)) = ap (λ p. length (names_of p)) q.2 in
    none_below groups path facts formed below fresh k q.0 front.0 q.1 (omega arith) names)
    (above_last (names_of path) (names_of r.path) more (names_of (parent_path r.path)) n.0 e n.1)

-- a new group alone is in its subtree
pub in_subtree-with_new : (groups : List Group) (n h : ℕ) (path : List ℕ) → AreGroups groups → CanMake groups path → has_group groups n ≡ false →
    in_subtree (with_group groups n path) n h ≡ true → h ≡ n
in_subtree-with_new groups n h path facts can free t =
    ⊎_elim (λ same. same)
    (λ other.
    let s = in_subtree-is (with_group groups n path) n h t in
    let above : s.above ≡ path = same_Some s.above path (sym s.path_above ∙ path_of-with_new groups n path free) in
    let w = path_of-is groups h s.below (sym (path_of-with groups n h path other) ∙ s.path_below) in
    let names : names_of w.0.path ≡ names_of path ++ s.more = ap names_of w.2 ∙ s.names ∙ ap (λ p. names_of p ++ s.more) above in
    absurd (none_below groups path facts can.formed can.below_root can.fresh (length (names_of w.0.path)) w.0 s.more
    (group_at-contains groups h w.0 w.1).0 (omega arith) names))
    (cases_eq h n)

-- a group lies one name below its parent
pub parent_of-depth : (groups : List Group) (h p : ℕ) → AreGroups groups → parent_of groups h ≡ Some p →
    (below : List ℕ) × (above : List ℕ) × (path_of groups h ≡ Some below) × (path_of groups p ≡ Some above) × (depth_of below ≡ depth_of above + 1)
parent_of-depth groups h p facts e =
    let w = parent_of-is groups h p e in
    let q = number_at-contains groups (parent_path w.0) p w.2 in
    let there = path_of-at groups q.0.number q.0 (group_at-there groups q.0 facts.numbers_distinct q.1) in
    let above : path_of groups p ≡ Some (parent_path w.0) = ap (path_of groups) (sym q.3) ∙ there ∙ ap Some q.2 in
    ⊎_elim
    (λ root.
    let zero : h ≡ 0 = same_number groups h 0 root_path facts (w.1 ∙ ap Some (root-from_test w.0 root)) (root_path_of groups facts) in
    absurd (none-some p (sym (parent_of-root groups h zero) ∙ e)))
    (λ below.
    let n = names_parent w.0 (path_of-formed groups h w.0 facts.paths w.1) below in
    (w.0, parent_path w.0, w.1, above, ap length n.1 ∙ length-append (names_of (parent_path w.0)) (n.0 ∷ [])))
    (cases_Bool (is_root w.0))

-- the root exists
pub root_there : (groups : List Group) → AreGroups groups → IsTrue (has_group groups 0)
root_there groups facts = has_group-path groups 0 root_path (root_path_of groups facts)

-- a group that existed before a group was made still exists
pub has_group-with_kept : (groups : List Group) (n k : ℕ) (path : List ℕ) → has_group groups n ≡ false → IsTrue (has_group groups k) →
    IsTrue (has_group (with_group groups n path) k)
has_group-with_kept groups n k path free there =
    has_group-with groups n k path (λ same. both_ways (has_group groups n) free (ap (has_group groups) (sym same) ∙ there)) ∙ there
