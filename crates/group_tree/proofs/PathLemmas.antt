-- The names of a path and its bytes. Serves `src/names.rt` and what the tree says of paths.
use Rattle.std.proofs.Common.{◌≡◌, ℕ, suc, ◌<◌, ◌≤◌, true, false, not, eqb, leb, get_or, ◌+◌, ◌-◌}
use Rattle.std.proofs.Common.{length-append, nat_eq, List, [], ◌∷◌, ◌++◌, length, take, drop, refl, sym, ap, ◌∙◌, arith, ⊎_elim, ◌&&◌}
use Rattle.std.specs.List.{slice_split, list_any, before_last, suffix_len, count_by, onto_first, flat_map, starts_with, list_all}
use Rattle.std.specs.Str.{bytes_eq}
use Rattle.std.proofs.lemmas.Bool.{eqb-true, eq-eqb, and_parts, cases_Bool, both_ways, or_cases, and_left, ne_eqb, not_from_true}
use Rattle.std.proofs.lemmas.Bool.{not_from_false, false≢true, cond-true, cond-false}
use Rattle.std.proofs.lemmas.List.Splits.{slice_split-cons_yes, slice_split-cons_no, slice_split_none, length-slice_split}
use Rattle.std.proofs.lemmas.List.{get_or_at, get_or-append_right, take_at, length-take-le, take_rest}
use Rattle.std.proofs.lemmas.List.Sums.{suffix_len_is}
use Rattle.std.proofs.lemmas.Grind.{get_or_tail}
use Rattle.std.proofs.lemmas.List.Folds.{list_any_at}
use Rattle.std.proofs.lemmas.List.Elements.{All-from_get_or}
use Rattle.std.proofs.lemmas.Slice.Eq.{bytes_eq-Decides, starts_is}
use Rattle.group_tree.specs.Path.{is_slash, or_root, parent_path, root_path, is_root, names_of, is_name, is_well_formed, IsWellFormed}

-- the path begins with a slash
abbrev pub BeginsWithSlash : List ℕ → Type 0
BeginsWithSlash path = (rest : List ℕ) × (path ≡ 47 ∷ rest)

pub begins_from_test : (path : List ℕ) → starts_with nat_eq path root_path ≡ true → BeginsWithSlash path
begins_from_test [] e = absurd (false≢true e)
begins_from_test (b ∷ bs) e = (bs, ap (λ x. x ∷ bs) (sym (eqb-true 47 b (and_parts (eqb 47 b) true e).0)))

-- some part is always there
pub split-cons : (xs : List ℕ) → (part : List ℕ) × (parts : List (List ℕ)) × (slice_split is_slash xs ≡ part ∷ parts)
split-cons [] = ([], [], refl)
split-cons (x ∷ xs) =
    let h = split-cons xs in
    ⊎_elim
    (λ e. ([], slice_split is_slash xs, slice_split-cons_yes is_slash x xs e))
    (λ e. (x ∷ h.0, h.1, slice_split-cons_no is_slash x xs e ∙ ap (onto_first x) h.2))
    (cases_Bool (is_slash x))

-- two texts joined by a slash have the parts of the first, then those of the second
pub split-append : (xs ys : List ℕ) → slice_split is_slash (xs ++ 47 ∷ ys) ≡ slice_split is_slash xs ++ slice_split is_slash ys
split-append [] ys = refl
split-append (x ∷ xs) ys =
    let h = split-cons xs in
    ⊎_elim
    (λ e. rw (slice_split-cons_yes is_slash x (xs ++ 47 ∷ ys) e, slice_split-cons_yes is_slash x xs e, split-append xs ys))
    (λ e. rw (slice_split-cons_no is_slash x (xs ++ 47 ∷ ys) e, slice_split-cons_no is_slash x xs e, split-append xs ys, h.2))
    (cases_Bool (is_slash x))

-- each name after a slash
abbrev pub slashed : List (List ℕ) → List ℕ
slashed names = flat_map (λ name. 47 ∷ name) names

pub slashed-split : (xs : List ℕ) → slashed (slice_split is_slash xs) ≡ 47 ∷ xs
slashed-split [] = refl
slashed-split (x ∷ xs) =
    let h = split-cons xs in
    let ih : slashed (slice_split is_slash xs) ≡ 47 ∷ xs = slashed-split xs in
    ⊎_elim
    (λ e. rw (slice_split-cons_yes is_slash x xs e, ih, eqb-true x 47 e))
    (λ e. let k : slashed (h.0 ∷ h.1) ≡ 47 ∷ xs = rw h.2 at ih in rw (slice_split-cons_no is_slash x xs e, h.2) (cc))
    (cases_Bool (is_slash x))

pub root-from_test : (path : List ℕ) → is_root path ≡ true → path ≡ root_path
root-from_test path e = (bytes_eq-Decides path root_path).0 e

pub names-root : (path : List ℕ) → is_root path ≡ true → names_of path ≡ []
unfolding names_of
names-root path e = cond-true (is_root path) _ _ e

pub names-below : (path rest : List ℕ) → is_root path ≡ false → path ≡ 47 ∷ rest → names_of path ≡ slice_split is_slash rest
unfolding names_of
names-below path rest e s = cond-false (is_root path) _ _ e ∙ ap (λ p. drop 1 (slice_split is_slash p)) s

-- a path below the root is its names, each after a slash
pub slashed-names : (path : List ℕ) → is_root path ≡ false → BeginsWithSlash path → slashed (names_of path) ≡ path
slashed-names path e s = rw (names-below path s.0 e s.1, slashed-split) (sym s.1)

pub names_behind : (path : List ℕ) → is_root path ≡ false → BeginsWithSlash path → names_of path ≡ slice_split is_slash (take (length path - 1) (drop 1 path))
names_behind path e s =
    let behind : take (length path - 1) (drop 1 path) ≡ s.0 = take_rest path 1 ∙ ap (drop 1) s.1 in
    names-below path s.0 e s.1 ∙ ap (slice_split is_slash) (sym behind)

pub begins_from_well_formed : (path : List ℕ) → IsWellFormed path → BeginsWithSlash path
unfolding is_well_formed
begins_from_well_formed path h =
    begins_from_test path (and_parts (leb (length path) 512) (starts_with nat_eq path root_path) (and_parts _ (list_all is_name (names_of path)) h).0).1

-- below the root there is a name for each slash
pub depth-slashes : (path : List ℕ) → is_root path ≡ false → BeginsWithSlash path → length (names_of path) ≡ count_by is_slash path
depth-slashes path e s =
    let n : suc (length (slice_split is_slash s.0)) ≡ count_by is_slash (47 ∷ s.0) + 1 = length-slice_split is_slash (47 ∷ s.0) in
    let same : count_by is_slash path ≡ count_by is_slash (47 ∷ s.0) = ap (count_by is_slash) s.1 in
    let names : length (names_of path) ≡ length (slice_split is_slash s.0) = ap length (names-below path s.0 e s.1) in
    omega arith

-- the names begin with other names
pub begins_names : (below above : List (List ℕ)) → starts_with bytes_eq below above ≡ true → below ≡ above ++ drop (length above) below
begins_names below above = (starts_is bytes_eq-Decides below above (starts_with bytes_eq below above) refl).0

pub begins_from_names : (below above rest : List (List ℕ)) → below ≡ above ++ rest → starts_with bytes_eq below above ≡ true
begins_from_names below above = (starts_is bytes_eq-Decides below above (starts_with bytes_eq below above) refl).1

pub has_name : (path : List ℕ) → is_root path ≡ false → BeginsWithSlash path → 0 < length (names_of path)
has_name path e s =
    let h = split-cons s.0 in
    rw (names-below path s.0 e s.1, h.2) (omega arith)

pub begins_root : (above below : List ℕ) → is_root above ≡ true → starts_with bytes_eq (names_of below) (names_of above) ≡ true
begins_root above below e = begins_from_names (names_of below) (names_of above) (names_of below) (sym (ap (λ x. x ++ names_of below) (names-root above e)))

-- the text before the last slash, if that is found from the end
before_last-at : (path : List ℕ) (end : ℕ) → end ≤ length path → ((k : ℕ) → end ≤ k → k < length path → get_or path k 0 ≡ 47 → ⊥) →
    (0 < end → get_or path (end - 1) 0 ≡ 47) → before_last is_slash path ≡ take (end - 1) path
before_last-at path end fits others found =
    let behind : suffix_len (λ x. not (is_slash x)) path ≡ length path - end =
    suffix_len_is (λ x. not (is_slash x)) path end 0 fits
    (λ k low high. not_from_false (is_slash (get_or path k 0)) (ne_eqb (get_or path k 0) 47 (others k low high)))
    (λ some. not_from_true (is_slash (get_or path (end - 1) 0)) (eq-eqb (get_or path (end - 1) 0) 47 (found some))) in
    let place : length path - suffix_len (λ x. not (is_slash x)) path - 1 ≡ end - 1 = omega arith in
    ap (λ n. take n path) place

pub or_root-some : (xs : List ℕ) → 0 < length xs → or_root xs ≡ xs
or_root-some [] h = absurd (omega arith)
or_root-some (x ∷ xs) h = refl

pub parent_root : (path : List ℕ) (end : ℕ) → end ≤ length path → ((k : ℕ) → end ≤ k → k < length path → get_or path k 0 ≡ 47 → ⊥) →
    (0 < end → get_or path (end - 1) 0 ≡ 47) → end ≤ 1 → parent_path path ≡ 47 ∷ []
unfolding parent_path
parent_root path end fits others found low =
    let none : end - 1 ≡ 0 = omega arith in
    ap or_root (before_last-at path end fits others found ∙ ap (λ n. take n path) none)

pub parent_text : (path : List ℕ) (end : ℕ) → end ≤ length path → ((k : ℕ) → end ≤ k → k < length path → get_or path k 0 ≡ 47 → ⊥) →
    (0 < end → get_or path (end - 1) 0 ≡ 47) → 1 < end → parent_path path ≡ take (end - 1) path
unfolding parent_path
parent_text path end fits others found low =
    let size : length (take (end - 1) path) ≡ end - 1 = length-take-le (end - 1) path (omega arith) in
    let some : 0 < length (take (end - 1) path) = omega arith in
    ap or_root (before_last-at path end fits others found) ∙ or_root-some (take (end - 1) path) some

-- ---- the last name
cons_head : (x y : ℕ) (xs ys : List ℕ) → x ∷ xs ≡ y ∷ ys → x ≡ y
cons_head x y xs ys e = cc

cons_tail : (x y : ℕ) (xs ys : List ℕ) → x ∷ xs ≡ y ∷ ys → xs ≡ ys
cons_tail x y xs ys e = cc

last_slash : (xs : List ℕ) → list_any is_slash xs ≡ true → (above : List ℕ) × (name : List ℕ) × (xs ≡ above ++ 47 ∷ name) × (list_any is_slash name ≡ false)
last_slash [] e = absurd (false≢true e)
last_slash (x ∷ xs) e =
    ⊎_elim
    (λ later. let h = last_slash xs later in (x ∷ h.0, h.1, ap (λ ys. x ∷ ys) h.2, h.3))
    (λ none. ⊎_elim
    (λ here. ([], xs, ap (λ y. y ∷ xs) (eqb-true x 47 here), none))
    (λ later. absurd (both_ways (list_any is_slash xs) none later))
    (or_cases (is_slash x) (list_any is_slash xs) e))
    (cases_Bool (list_any is_slash xs))

no_slash-at : (name : List ℕ) (k : ℕ) → list_any is_slash name ≡ false → k < length name → get_or name k 0 ≡ 47 → ⊥
no_slash-at name k none lt e = both_ways (list_any is_slash name) none (list_any_at is_slash name k 0 lt (eq-eqb (get_or name k 0) 47 e))

parent-split : (path above name : List ℕ) → path ≡ above ++ 47 ∷ name → list_any is_slash name ≡ false → parent_path path ≡ or_root above
unfolding parent_path
parent-split path above name e none =
    let size : length path ≡ length above + suc (length name) = ap length e ∙ length-append above (47 ∷ name) in
    let others : (k : ℕ) → length above + 1 ≤ k → k < length path → get_or path k 0 ≡ 47 → ⊥ =
    λ k low high at. no_slash-at name (k - (length above + 1)) none (omega arith)
    (let behind : get_or (above ++ 47 ∷ name) k 0 ≡ get_or (47 ∷ name) (k - length above) 0 =
    get_or-append_right above (47 ∷ name) (length above) k 0 refl (omega arith) in
    let next : get_or (47 ∷ name) (k - length above) 0 ≡ get_or name (k - length above - 1) 0 = get_or_tail 47 name (k - length above) 0 (omega arith) in
    let same : k - length above - 1 ≡ k - (length above + 1) = omega arith in
    ap (λ j. get_or name j 0) (sym same) ∙ sym next ∙ sym behind ∙ ap (λ p. get_or p k 0) (sym e) ∙ at) in
    let place : length above + 1 - 1 ≡ length above = omega arith in
    let found : 0 < length above + 1 → get_or path (length above + 1 - 1) 0 ≡ 47 =
    λ _. ap (λ p. get_or p (length above + 1 - 1) 0) e ∙ get_or_at above 47 name 0 (length above + 1 - 1) (omega arith) in
    ap or_root (before_last-at path (length above + 1) (omega arith) others found ∙ ap (λ p. take (length above + 1 - 1) p) e
    ∙ take_at above (47 ∷ name) (length above + 1 - 1) (omega arith))

pub all_names : (path : List ℕ) → IsWellFormed path → list_all is_name (names_of path) ≡ true
unfolding is_well_formed
all_names path h = (and_parts (leb (length path) 512 && starts_with nat_eq path root_path) (list_all is_name (names_of path)) h).1

empty_is_no_name : is_name [] ≡ false
unfolding is_name
empty_is_no_name = refl

split_no_slash : (name : List ℕ) → list_any is_slash name ≡ false → slice_split is_slash name ≡ name ∷ []
split_no_slash name none =
    slice_split_none is_slash name (All-from_get_or (λ x. is_slash x ≡ false) name 0 (λ k lt. ne_eqb (get_or name k 0) 47 (no_slash-at name k none lt)))

names_parent-at : (path rest above name : List ℕ) → IsWellFormed path → is_root path ≡ false → path ≡ 47 ∷ rest → path ≡ above ++ 47 ∷ name →
    list_any is_slash name ≡ false → names_of path ≡ names_of (parent_path path) ++ name ∷ []
names_parent-at path rest [] name formed e s p none =
    let one : names_of path ≡ name ∷ [] = names-below path name e p ∙ split_no_slash name none in
    let parent : parent_path path ≡ root_path = parent-split path [] name p none in
    one ∙ ap (λ ns. ns ++ name ∷ []) (sym (ap names_of parent ∙ names-root root_path refl))
names_parent-at path rest (a ∷ as') name formed e s p none =
    let parent : parent_path path ≡ a ∷ as' = parent-split path (a ∷ as') name p none in
    let slash : a ≡ 47 = cons_head a 47 (as' ++ 47 ∷ name) rest (sym p ∙ s) in
    let whole : path ≡ 47 ∷ (as' ++ 47 ∷ name) = p ∙ ap (λ b. b ∷ (as' ++ 47 ∷ name)) slash in
    let names : names_of path ≡ slice_split is_slash as' ++ name ∷ [] =
    names-below path (as' ++ 47 ∷ name) e whole ∙ split-append as' name ∙ ap (λ ns. slice_split is_slash as' ++ ns) (split_no_slash name none) in
    ⊎_elim
    (λ root.
    let empty : as' ≡ [] = cons_tail a 47 as' [] (root-from_test (a ∷ as') root) in
    let bad : names_of path ≡ [] ∷ name ∷ [] = names ∙ ap (λ b. slice_split is_slash b ++ name ∷ []) empty in
    absurd (both_ways (list_all is_name (names_of path)) (ap (list_all is_name) bad
    ∙ and_left (is_name []) (list_all is_name (name ∷ [])) empty_is_no_name) (all_names path formed)))
    (λ below.
    let above : names_of (a ∷ as') ≡ slice_split is_slash as' = names-below (a ∷ as') as' below (ap (λ b. b ∷ as') slash) in
    names ∙ ap (λ ns. ns ++ name ∷ []) (sym above ∙ ap names_of (sym parent)))
    (cases_Bool (is_root (a ∷ as')))

root_parent : parent_path root_path ≡ root_path
unfolding parent_path
root_parent = refl

-- the names of a path are its parent's and one more
pub names_parent : (path : List ℕ) → IsWellFormed path → is_root path ≡ false → (name : List ℕ) × (names_of path ≡ names_of (parent_path path) ++ name ∷ [])
names_parent path formed e =
    let s = begins_from_well_formed path formed in
    let h = last_slash path (ap (list_any is_slash) s.1) in
    (h.1, names_parent-at path s.0 h.0 h.1 formed e s.1 h.2 h.3)

-- the names of the parent begin those of the path
pub begins_parent : (path : List ℕ) → IsWellFormed path → starts_with bytes_eq (names_of path) (names_of (parent_path path)) ≡ true
begins_parent path formed =
    ⊎_elim
    (λ e.
    let parent : parent_path path ≡ root_path = ap parent_path (root-from_test path e) ∙ root_parent in
    begins_from_names (names_of path) (names_of (parent_path path)) (names_of path)
    (sym (ap (λ p. names_of p ++ names_of path) parent ∙ ap (λ ns. ns ++ names_of path) (names-root root_path refl))))
    (λ e. let h = names_parent path formed e in begins_from_names (names_of path) (names_of (parent_path path)) (h.0 ∷ []) h.1)
    (cases_Bool (is_root path))
