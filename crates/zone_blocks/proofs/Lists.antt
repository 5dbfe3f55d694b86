-- Lists joined and filtered, and the list of all blocks that a zone can have: for the blocks of free areas and their order.
use Rattle.std.proofs.Common.{◌≡◌, ℕ, zero, suc, ◌+◌, ◌-◌, ◌*◌, ◌/◌, ◌%◌, ◌^◌, ◌<◌, ◌≤◌, Bool, true, List, [], ◌∷◌, ◌++◌, length, get_or}
use Rattle.std.proofs.Common.{refl, sym, ap, ◌∙◌, subst, inl, inr, arith, length-append}
use Rattle.std.specs.List.{AllPairs, Contains, flat_map, filter, range_with_len}
use Rattle.std.proofs.lemmas.List.{get_or_append_left, get_or-append_right}
use Rattle.std.proofs.lemmas.List.Elements.{Contains-append_left, Contains-append_right, Contains-append_cases, Contains-get_or}
use Rattle.std.proofs.lemmas.List.FromFn.{length-range_with_len, get_or-range_with_len, length-map-range_with_len, get_or-map-range_with_len}
use Rattle.std.proofs.lemmas.Bool.{cases_lt, cases_Bool}
use Rattle.std.proofs.lemmas.Nat.{div-add-mod', le-div, pow_pos}
use Rattle.std.proofs.Math.Nat.{mul-le-mul_right, mul-mod_left}
use Rattle.zone_blocks.specs.declared.block.Block.{Block}
use Rattle.zone_blocks.specs.{IsBlock, Precedes, blocks_of_order, blocks_of_zone}
use Rattle.zone_blocks.proofs.Filling.{same_block}

-- where an element of the joined lists stands
pub contains_from_flat_map : {X A : Type 0} (f : X → List A) (xs : List X) (y : A) → Contains (flat_map f xs) y
    → (k : ℕ) × (k < length xs) × ((d : X) → Contains (f (get_or xs k d)) y)
contains_from_flat_map f [] y (k, l, e) = absurd (omega arith)
contains_from_flat_map f (x ∷ xs) y h =
    elim (Contains-append_cases (f x) (flat_map f xs) y h) [
      | inl p ↦ (zero, omega arith, λ d. p)
      | inr p ↦ let r = contains_from_flat_map f xs y p in (suc r.0, omega (arith, r.1), λ d. r.2 d)
    ]

pub contains_flat_map : {X A : Type 0} (f : X → List A) (xs : List X) (k : ℕ) (d : X) (y : A) → k < length xs → Contains (f (get_or xs k d)) y
    → Contains (flat_map f xs) y
contains_flat_map f [] k d y l h = absurd (omega arith)
contains_flat_map f (x ∷ xs) zero d y l h = Contains-append_left (f x) (flat_map f xs) y h
contains_flat_map f (x ∷ xs) (suc k) d y l h = Contains-append_right (f x) (flat_map f xs) y (contains_flat_map f xs k d y (omega arith) h)

pub all_pairs_append : {X : Type 0} (R : X → X → Type 0) (xs ys : List X) → AllPairs R xs → AllPairs R ys
    → ((x y : X) → Contains xs x → Contains ys y → R x y) → AllPairs R (xs ++ ys)
all_pairs_append R xs ys hx hy across i j d l m =
    let n = length-append xs ys in
    elim (cases_lt j (length xs)) [
      | inl p ↦
          let ei = get_or_append_left xs ys d i (omega arith) in
          let ej = get_or_append_left xs ys d j p in
          rw (ei, ej) (hx i j d l p)
      | inr p ↦
          let ej = get_or-append_right xs ys (length xs) j d refl p in
          elim (cases_lt i (length xs)) [
            | inl q ↦
                let ei = get_or_append_left xs ys d i q in
                rw (ei, ej) (across _ _ (Contains-get_or xs i d q) (Contains-get_or ys (j - length xs) d (omega arith)))
            | inr q ↦
                let ei = get_or-append_right xs ys (length xs) i d refl q in
                rw (ei, ej) (hy (i - length xs) (j - length xs) d (omega arith) (omega arith))
          ]
    ]

-- ---- the elements that pass a test

pub contains_filter : {X : Type 0} (p : X → Bool) (xs : List X) (x : X) → Contains xs x → p x ≡ true → Contains (filter p xs) x
contains_filter p [] x (k, l, e) t = absurd (omega arith)
contains_filter {X} p (y ∷ ys) x (zero, l, e) t =
    let P : X → Type 0 = λ z. p z ≡ true in
    let here : p y ≡ true = subst P (sym e) t in
    rw here (zero, omega arith, e)
contains_filter p (y ∷ ys) x (suc k, l, e) t =
    let rest = contains_filter p ys x (k, omega arith, e) t in
    elim (cases_Bool (p y)) [
      | inl h ↦ rw h (suc rest.0, omega (arith, rest.1), rest.2)
      | inr h ↦ rw h rest
    ]

from_cons : {X : Type 0} (p : X → Bool) (y : X) (ys zs : List X) (x : X) → p y ≡ true → (Contains zs x → Contains ys x × (p x ≡ true)) → Contains (y ∷ zs) x
    → Contains (y ∷ ys) x × (p x ≡ true)
from_cons {X} p y ys zs x t h (zero, l, e) = let P : X → Type 0 = λ z. p z ≡ true in ((zero, omega arith, e), subst P e t)
from_cons p y ys zs x t h (suc k, l, e) = let r = h (k, omega arith, e) in let c = r.0 in ((suc c.0, omega (arith, c.1), c.2), r.1)

pub contains_from_filter : {X : Type 0} (p : X → Bool) (xs : List X) (x : X) → Contains (filter p xs) x → Contains xs x × (p x ≡ true)
contains_from_filter p [] x (k, l, e) = absurd (omega arith)
contains_from_filter p (y ∷ ys) x h =
    elim (cases_Bool (p y)) [
      | inl t ↦ from_cons p y ys (filter p ys) x t (contains_from_filter p ys x) (rw t at h)
      | inr t ↦ let r = contains_from_filter p ys x (rw t at h) in let c = r.0 in ((suc c.0, omega (arith, c.1), c.2), r.1)
    ]

-- ---- the blocks that a zone can have

abbrev numbered : ℕ → ℕ → Block
numbered k i = record { at = i * 2 ^ k; order = k }

in_order : (n k i : ℕ) → i < n / 2 ^ k → Contains (blocks_of_order n k) (numbered k i)
in_order n k i l =
    let m = length-map-range_with_len (numbered k) 0 (n / 2 ^ k) in
    (i, omega (arith, m), get_or-map-range_with_len (numbered k) 0 (n / 2 ^ k) i i (numbered k i) l (omega arith))

from_order : (n k : ℕ) (b : Block) → Contains (blocks_of_order n k) b → (i : ℕ) × (i < n / 2 ^ k) × (numbered k i ≡ b)
from_order n k b (i, l, e) =
    let m = length-map-range_with_len (numbered k) 0 (n / 2 ^ k) in
    let within : i < n / 2 ^ k = omega arith in
    (i, within, sym (get_or-map-range_with_len (numbered k) 0 (n / 2 ^ k) i i b within (omega arith)) ∙ e)

-- a block of a zone has a number below that of the blocks of its order, and begins at that multiple of its size
pub number_within : (n : ℕ) (b : Block) → IsBlock n b → (b.at / 2 ^ b.order < n / 2 ^ b.order) × (b.at / 2 ^ b.order * 2 ^ b.order ≡ b.at)
number_within n b h =
    let e : b.at / 2 ^ b.order * 2 ^ b.order + b.at % 2 ^ b.order ≡ b.at = div-add-mod' b.at (2 ^ b.order) in
    let aligned = h.aligned in
    let inside = h.inside in
    let r : b.at / 2 ^ b.order + 1 ≤ n / 2 ^ b.order = le-div (b.at / 2 ^ b.order + 1) n (2 ^ b.order) (pow_pos b.order) (omega (arith, e, aligned, inside)) in
    (omega arith, omega (arith, e, aligned))

pub numbered_is_block : (n k i : ℕ) → k < 11 → i < n / 2 ^ k → IsBlock n (numbered k i)
numbered_is_block n k i o l =
    let e : n / 2 ^ k * 2 ^ k + n % 2 ^ k ≡ n = div-add-mod' n (2 ^ k) in
    let m = mul-le-mul_right {m = i + 1} {n = n / 2 ^ k} (2 ^ k) (omega arith) in
    record { order = omega arith; aligned = mul-mod_left i (2 ^ k); inside = omega (arith, e, m) }

pub in_zone : (n : ℕ) (b : Block) → IsBlock n b → Contains (blocks_of_zone n) b
in_zone n b h =
    let o = h.order in
    let w = number_within n b h in
    let same : numbered b.order (b.at / 2 ^ b.order) ≡ b = same_block (numbered b.order (b.at / 2 ^ b.order)) b w.1 refl in
    let l : b.order < 11 = omega arith in
    let z : 0 + b.order ≡ b.order = omega arith in
    let e : get_or (range_with_len 0 11) b.order 0 ≡ b.order = get_or-range_with_len 0 11 b.order 0 l ∙ z in
    let K : ℕ → Type 0 = λ k. Contains (blocks_of_order n k) b in
    contains_flat_map (blocks_of_order n) (range_with_len 0 11) b.order 0 b (omega (arith, length-range_with_len 0 11))
    (subst K (sym e) (subst (Contains (blocks_of_order n b.order)) same (in_order n b.order (b.at / 2 ^ b.order) w.0)))

pub from_zone : (n : ℕ) (b : Block) → Contains (blocks_of_zone n) b → IsBlock n b
from_zone n b h =
    let r = contains_from_flat_map (blocks_of_order n) (range_with_len 0 11) b h in
    let l : r.0 < 11 = omega (arith, r.1, length-range_with_len 0 11) in
    let z : 0 + r.0 ≡ r.0 = omega arith in
    let e : get_or (range_with_len 0 11) r.0 0 ≡ r.0 = get_or-range_with_len 0 11 r.0 0 l ∙ z in
    let K : ℕ → Type 0 = λ k. Contains (blocks_of_order n k) b in
    let q = from_order n r.0 b (subst K e (r.2 0)) in
    subst (IsBlock n) q.2 (numbered_is_block n r.0 q.0 l q.1)

order_ordered : (n k : ℕ) → AllPairs Precedes (blocks_of_order n k)
order_ordered n k i j d l m =
    let w = length-map-range_with_len (numbered k) 0 (n / 2 ^ k) in
    let ei = get_or-map-range_with_len (numbered k) 0 (n / 2 ^ k) i i d (omega (arith, w, m)) (omega arith) in
    let ej = get_or-map-range_with_len (numbered k) 0 (n / 2 ^ k) j j d (omega (arith, w, m)) (omega arith) in
    let p = mul-le-mul_right {m = i + 1} {n = j} (2 ^ k) (omega arith) in
    rw (ei, ej) (inr (refl, omega (arith, p, pow_pos k)))

ordered_from : (n a m : ℕ) → AllPairs Precedes (flat_map (blocks_of_order n) (range_with_len a m))
ordered_from n a zero = λ i j d l m. absurd (omega arith)
ordered_from n a (suc m) =
    all_pairs_append Precedes (blocks_of_order n a) (flat_map (blocks_of_order n) (range_with_len (a + 1) m)) (order_ordered n a)
    (ordered_from n (a + 1) m) (λ x y p q.
    let r = from_order n a x p in
    let s = contains_from_flat_map (blocks_of_order n) (range_with_len (a + 1) m) y q in
    let w = length-range_with_len (a + 1) m in
    let e = get_or-range_with_len (a + 1) m s.0 0 (omega (arith, s.1, w)) in
    let K : ℕ → Type 0 = λ k. Contains (blocks_of_order n k) y in
    let t = from_order n (a + 1 + s.0) y (subst K e (s.2 0)) in
    let order : Block → ℕ = λ z. z.order in
    inl (omega (arith, ap order r.2, ap order t.2)))

pub zone_ordered : (n : ℕ) → AllPairs Precedes (blocks_of_zone n)
zone_ordered n = ordered_from n 0 11
