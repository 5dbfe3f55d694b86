-- Phases of which a range was set (for `Rows::set_unit` and `Rows::free_unit`).
use Rattle.std.proofs.Common.{◌≡◌, ℕ, ◌+◌, ◌-◌, ◌^◌, ◌<◌, ◌≤◌, ◌==◌, Bool, true, false, List, ◌++◌, length, take, drop, replicate, get_or, set, refl}
use Rattle.std.proofs.Common.{sym, ◌∙◌, ap, arith, inl, inr, ◌⊎◌, cond, suc, [], ◌∷◌, append_assoc, append-nil, eq-eqb}
use Rattle.std.proofs.Math.Seq.{drop-cons, set-append_seam}
use Rattle.std.specs.Prelude.{if◌then◌else◌, min}
use Rattle.step_rules.specs.{Zone, free_in, is_free, is_within, placed_phase, with_block}
use Rattle.std.proofs.lemmas.Bool.{cases_lt, cases_eq, cond-true, cond-false, ne_eqb}
use Rattle.std.proofs.lemmas.List.{get_or_append_left, get_or-append_right, get_or-take, get_or-drop, get_or-replicate, length-take-le}
use Rattle.std.proofs.lemmas.List.{get_or-set_same, get_or-set_other, replicate-append-replicate, take-append-drop}
use Rattle.std.proofs.lemmas.Grind.{common_steps}
use Rattle.std.proofs.lemmas.List.FromFn.{length-map-range_with_len}
use Rattle.std.proofs.Math.Pow.{pow_mono}
use Rattle.zone_blocks.specs.declared.block.Block.{Block}
use Rattle.step_rules.specs.declared.phase.Phase.{Phase}
use Rattle.step_rules.specs.declared.phase.Phase.TheVariants.{InZone, Head, Tail}
use Rattle.step_rules.specs.declared.phase.Stage.TheVariants.{Bare}
use Rattle.mem_core.proofs.Looking.{past_default}

abbrev pub ranged : {X : Type 0} → List X → ℕ → ℕ → X → List X
ranged xs at n x = take at xs ++ replicate n x ++ drop (at + n) xs

pub length-ranged : {X : Type 0} (xs : List X) (at n : ℕ) (x : X) → at + n ≤ length xs → length (ranged xs at n x) ≡ length xs
length-ranged xs at n x h = grind (arith, common_steps)

pub ranged_in : {X : Type 0} (xs : List X) (at n : ℕ) (x d : X) (m : ℕ) → at + n ≤ length xs → at ≤ m → m < at + n → get_or (ranged xs at n x) m d ≡ x
ranged_in xs at n x d m h low high =
    let front = length-take-le at xs (omega arith) in
    let len : length (take at xs ++ replicate n x) ≡ at + n = grind (arith, common_steps) in
    get_or_append_left (take at xs ++ replicate n x) (drop (at + n) xs) d m (omega arith)
    ∙ get_or-append_right (take at xs) (replicate n x) at m d front low
    ∙ get_or-replicate n (m - at) x d (omega arith)

pub ranged_out : {X : Type 0} (xs : List X) (at n : ℕ) (x d : X) (m : ℕ) → at + n ≤ length xs → (m < at) ⊎ (at + n ≤ m)
    → get_or (ranged xs at n x) m d ≡ get_or xs m d
ranged_out xs at n x d m h (inl before) =
    let front = length-take-le at xs (omega arith) in
    let len : length (take at xs ++ replicate n x) ≡ at + n = grind (arith, common_steps) in
    get_or_append_left (take at xs ++ replicate n x) (drop (at + n) xs) d m (omega arith)
    ∙ get_or_append_left (take at xs) (replicate n x) d m (omega arith)
    ∙ get_or-take at xs m d before
ranged_out xs at n x d m h (inr after) =
    let front = length-take-le at xs (omega arith) in
    let len : length (take at xs ++ replicate n x) ≡ at + n = grind (arith, common_steps) in
    get_or-append_right (take at xs ++ replicate n x) (drop (at + n) xs) (at + n) m d len after
    ∙ get_or-drop (at + n) xs (m - (at + n)) d
    ∙ ap (λ k. get_or xs k d) (let e : at + n + (m - (at + n)) ≡ m = omega arith in e)

-- one more value is set
pub ranged_more : {X : Type 0} (xs : List X) (at n : ℕ) (x : X) → at + n < length xs → set (ranged xs at n x) (at + n) x ≡ ranged xs at (n + 1) x
ranged_more xs at n x here =
    let front = length-take-le at xs (omega arith) in
    let len : length (take at xs ++ replicate n x) ≡ at + n = grind (arith, common_steps) in
    let rest = drop-cons xs (at + n) x here in
    let seam = set-append_seam (take at xs ++ replicate n x) (get_or xs (at + n) x) (drop (suc (at + n)) xs) x in
    let last : (take at xs ++ replicate n x) ++ x ∷ [] ≡ take at xs ++ replicate (n + 1) x = append_assoc (take at xs) (replicate n x) (x ∷ [])
    ∙ ap (λ l. take at xs ++ l) (replicate-append-replicate n 1 x) in
    (λ i. set ((take at xs ++ replicate n x) ++ rest i) (sym len i) x)
    ∙ seam
    ∙ sym (append_assoc (take at xs ++ replicate n x) (x ∷ []) (drop (suc (at + n)) xs))
    ∙ (λ i. last i ++ drop (suc_is i) xs)
  where
    suc_is : suc (at + n) ≡ at + (n + 1)
    suc_is = omega arith

pub ranged_none : {X : Type 0} (xs : List X) (at : ℕ) (x : X) → xs ≡ ranged xs at 0 x
ranged_none xs at x =
    let none : at ≡ at + 0 = omega arith in
    sym (take-append-drop at xs) ∙ (λ i. sym (append-nil (take at xs)) i ++ drop (none i) xs)

within_in : (at n m : ℕ) → at ≤ m → m < at + n → is_within at n m ≡ true
within_in at n m low high = grind arith

within_out : (at n m : ℕ) → (m < at) ⊎ (at + n ≤ m) → is_within at n m ≡ false
within_out at n m (inl before) = grind arith
within_out at n m (inr after) = grind arith

-- the phases of a block that is placed
pub block_phases : (xs : List Phase) (g : ℕ) (b : Block) → b.at + 2 ^ b.order ≤ length xs →
    (λ (m : ℕ). get_or (set (ranged xs b.at (2 ^ b.order) (Tail g)) b.at (Head (record { group = g; order = b.order }) Bare)) m
    InZone) ≡ with_block (λ m. get_or xs m InZone) g b
block_phases xs g b h = λ i. λ m. each m i
  where
    ys : List Phase
    ys = ranged xs b.at (2 ^ b.order) (Tail g)

    head : Phase
    head = Head (record { group = g; order = b.order }) Bare

    some : 1 ≤ 2 ^ b.order
    some = pow_mono {i = 0} (omega arith)

    len : length ys ≡ length xs
    len = length-ranged xs b.at (2 ^ b.order) (Tail g) h

    out : (m : ℕ) → (m < b.at) ⊎ (b.at + 2 ^ b.order ≤ m) → (m ≡ b.at → ⊥) → get_or (set ys b.at head) m InZone ≡ with_block (λ m. get_or xs m InZone) g b m
    out m o ne = get_or-set_other ys b.at m head InZone ne ∙ ranged_out xs b.at (2 ^ b.order) (Tail g) InZone m h o
        ∙ sym (cond-false (is_within b.at (2 ^ b.order) m) (placed_phase g b m) (get_or xs m InZone) (within_out b.at (2 ^ b.order) m o))

    into : (m : ℕ) → b.at ≤ m → m < b.at + 2 ^ b.order → get_or (set ys b.at head) m InZone ≡ placed_phase g b m
    into m low high =
        elim (cases_eq m b.at) [
          | inl e ↦ ap (λ k. get_or (set ys b.at head) k InZone) e
              ∙ get_or-set_same ys b.at head InZone (omega (arith, len, some)) ∙ sym (cond-true (m == b.at) head (Tail g) (eq-eqb m b.at e))
          | inr ne ↦ get_or-set_other ys b.at m head InZone ne ∙ ranged_in xs b.at (2 ^ b.order) (Tail g) InZone m h low high
              ∙ sym (cond-false (m == b.at) head (Tail g) (ne_eqb m b.at ne))
        ]

    each : (m : ℕ) → get_or (set ys b.at head) m InZone ≡ with_block (λ m. get_or xs m InZone) g b m
    each m =
        elim (cases_lt m b.at) [
          | inl before ↦ out m (inl before) (λ e. absurd (omega arith))
          | inr low ↦ elim (cases_lt m (b.at + 2 ^ b.order)) [
            | inl high ↦ into m low high ∙ sym (cond-true (is_within b.at (2 ^ b.order) m) (placed_phase g b m)
                (get_or xs m InZone) (within_in b.at (2 ^ b.order) m low high))
            | inr after ↦ out m (inr after) (λ e. absurd (omega (arith, some)))
          ]
        ]

both_free : (b : Bool) → InZone ≡ cond b InZone InZone
both_free true = refl
both_free false = refl

-- the phases of a unit that comes back: beyond the zone every frame is free
pub unit_phases : (xs : List Phase) (f n size : ℕ) → n ≤ size → f + n ≤ length xs → (n ≡ size) ⊎ (f + n ≡ length xs) →
    ◌≡◌ {A = ℕ → Phase} (λ m. get_or (ranged xs f n InZone) m InZone) (λ m. if is_within f size m then InZone else get_or xs m InZone)
unit_phases xs f n size few h ends = λ i. λ m. each m i
  where
    past : (m : ℕ) → f + n ≤ m → (n ≡ size) ⊎ (f + n ≡ length xs) → get_or xs m InZone ≡ cond (is_within f size m) InZone (get_or xs m InZone)
    past m after (inl e) = sym (cond-false (is_within f size m) InZone (get_or xs m InZone) (within_out f size m (inr (omega arith))))
    past m after (inr e) =
        let none : get_or xs m InZone ≡ InZone = past_default xs m InZone (omega arith) in
        none ∙ both_free (is_within f size m) ∙ ap (λ x. cond (is_within f size m) InZone x) (sym none)

    each : (m : ℕ) → get_or (ranged xs f n InZone) m InZone ≡ cond (is_within f size m) InZone (get_or xs m InZone)
    each m =
        elim (cases_lt m f) [
          | inl before ↦ ranged_out xs f n InZone InZone m h (inl before)
              ∙ sym (cond-false (is_within f size m) InZone (get_or xs m InZone) (within_out f size m (inl before)))
          | inr low ↦ elim (cases_lt m (f + n)) [
            | inl high ↦ ranged_in xs f n InZone InZone m h low high
                ∙ sym (cond-true (is_within f size m) InZone (get_or xs m InZone) (within_in f size m low (omega arith)))
            | inr after ↦ ranged_out xs f n InZone InZone m h (inr after) ∙ past m after ends
          ]
        ]

pub least_ends : (size left : ℕ) → (min size left ≡ size) ⊎ (min size left ≡ left)
least_ends size left = elim (cases_lt size left) [
  | inl less ↦ inl (omega arith)
  | inr more ↦ inr (omega arith)
]

pub length_free : (zone : Zone) (phases : ℕ → Phase) → length (free_in zone phases) ≡ zone.frames
length_free zone phases = length-map-range_with_len (λ f. is_free (phases f)) 0 zone.frames
