-- The laws of the maximal free blocks, each cited by the function that has it as its contract.
use Rattle.std.proofs.Common.{◌≡◌, ℕ, zero, suc, ◌+◌, ◌-◌, ◌^◌, ◌%◌, ◌<◌, ◌≤◌, ◌⊎◌, Bool, true, false, List, [], ◌∷◌, length, get_or, refl}
use Rattle.std.proofs.Common.{sym, ap, ◌∙◌, subst, inl, inr, arith}
use Rattle.std.specs.List.{AllPairs, Contains}
use Rattle.std.proofs.lemmas.List.{get_or_past}
use Rattle.std.proofs.lemmas.Bool.{cases_lt, cases_eq, cases_Bool, false≢true}
use Rattle.std.proofs.lemmas.Nat.{pow_pos, mod_below}
use Rattle.std.proofs.Math.Nat.{mod-le, mod-one}
use Rattle.zone_blocks.specs.declared.block.Block.{Block}
use Rattle.zone_blocks.specs.{Covers, enclosing, IsFree, IsFreeBlock, IsMaximalBlock, Precedes, EveryFreeFrameIsInOneBlock, EveryFrameInABlockIsFree}
use Rattle.zone_blocks.specs.{MaximalBlocksAreUnique}
use Rattle.zone_blocks.proofs.Filling.{same_block}
use Rattle.zone_blocks.proofs.Nested.{start_is, start_aligned, nested_low, nested_high, same_maximal}

-- ---- a free frame lies in a maximal free block

pub decide_range : (free : List Bool) (a n : ℕ)
    → ((f : ℕ) → a ≤ f → f < a + n → get_or free f false ≡ true) ⊎ (((f : ℕ) → a ≤ f → f < a + n → get_or free f false ≡ true) → ⊥)
decide_range free a zero = inl (λ f low high. absurd (omega arith))
decide_range free a (suc n) =
    elim (decide_range free a n) [
      | inl all ↦ elim (cases_Bool (get_or free (a + n) false)) [
        | inl e ↦ inl (λ f low high. elim (cases_lt f (a + n)) [
          | inl lt ↦ all f low lt
          | inr ge ↦ let here : f ≡ a + n = omega arith in rw here e
        ])
        | inr e ↦ inr (λ h. false≢true (sym e ∙ h (a + n) (omega arith) (omega arith)))
      ]
      | inr not ↦ inr (λ h. not (λ f low high. h f low (omega arith)))
    ]

pub decide_free_block : (free : List Bool) (b : Block) → IsFreeBlock free b ⊎ (IsFreeBlock free b → ⊥)
decide_free_block free b =
    elim (cases_lt 10 b.order) [
      | inl above ↦ inr (λ h. let o = h.block.order in absurd (omega arith))
      | inr order ↦ elim (cases_eq (b.at % 2 ^ b.order) 0) [
        | inr crooked ↦ inr (λ h. crooked h.block.aligned)
        | inl aligned ↦ elim (cases_lt (length free) (b.at + 2 ^ b.order)) [
          | inl outside ↦ inr (λ h. let i = h.block.inside in absurd (omega arith))
          | inr inside ↦ elim (decide_range free b.at (2 ^ b.order)) [
            | inl all ↦ inl record {
              block = record { order = order; aligned = aligned; inside = inside };
              all_free = λ f c. all f c.from c.before;
            }
            | inr not ↦ inr (λ h. not (λ f low high. h.all_free f record { from = low; before = high }))
          ]
        ]
      ]
    ]

-- the block of order k that has frame f
abbrev pub round : ℕ → ℕ → Block
round f k = record { at = f - f % 2 ^ k; order = k }

pub round_covers : (f k : ℕ) → Covers (round f k) f
round_covers f k =
    let below = mod_below f (2 ^ k) (pow_pos k) in
    let le = mod-le f (2 ^ k) in
    record { from = omega arith; before = omega (arith, below, le) }

enclosing_round : (f k : ℕ) → enclosing (round f k) ≡ round f (k + 1)
enclosing_round f k =
    let one : ℕ = 1 in
    let e : one + k ≡ k + 1 = omega arith in
    let s : ℕ = f - f % 2 ^ k in
    let big : ℕ = f - f % 2 ^ (k + 1) in
    let low : big ≤ s = rw e at (nested_low f 1 k) in
    let high : s + 2 ^ k ≤ big + 2 ^ (k + 1) = rw e at (nested_high f 1 k) in
    let is : big ≡ s - s % 2 ^ (k + 1) = start_is big (2 ^ (k + 1)) s (pow_pos (k + 1)) (start_aligned f (2 ^ (k + 1))) low (omega (arith, high, pow_pos k)) in
    same_block (enclosing (round f k)) (round f (k + 1)) (sym is) refl

climb : (free : List Bool) (f left k : ℕ) → left + k ≡ 10 → IsFreeBlock free (round f k) → (b : Block) × IsMaximalBlock free b × Covers b f
climb free f zero k e h =
    (round f k, record { is_free = h; maximal = λ g. let o = g.block.order in absurd (omega arith) }, round_covers f k)
climb free f (suc left) k e h =
    elim (decide_free_block free (enclosing (round f k))) [
      | inl more ↦ climb free f left (k + 1) (omega arith) (subst (IsFreeBlock free) (enclosing_round f k) more)
      | inr not ↦ (round f k, record { is_free = h; maximal = not }, round_covers f k)
    ]

free_inside_zone : (free : List Bool) (f : ℕ) → IsFree free f → f < length free
free_inside_zone free f h =
    elim (cases_lt f (length free)) [
      | inl lt ↦ lt
      | inr past ↦ absurd (false≢true (sym (get_or_past free f false past) ∙ h))
    ]

single_free : (free : List Bool) (f : ℕ) → IsFree free f → IsFreeBlock free (round f 0)
single_free free f h =
    let e : f % 1 ≡ 0 = mod-one f in
    let inside = free_inside_zone free f h in
    record {
      block = record { order = omega arith; aligned = mod-one (f - f % 1); inside = omega (arith, e) };
      all_free = λ g c.
          let from = c.from in
          let before = c.before in
          let same : g ≡ f = omega (arith, e) in
          rw same h;
    }

pub in_maximal : (free : List Bool) (f : ℕ) → IsFree free f → (b : Block) × IsMaximalBlock free b × Covers b f
in_maximal free f h = climb free f 10 0 (omega arith) (single_free free f h)

pub in_one_block : EveryFreeFrameIsInOneBlock
in_one_block free blocks h f is =
    let r = in_maximal free f is in
    (r.0, h.all r.0 r.1, r.2, λ c q cover. same_maximal free c r.0 (h.each c q) r.1 f cover r.2)

pub in_a_block_is_free : EveryFrameInABlockIsFree
in_a_block_is_free free blocks h b there f cover = (h.each b there).is_free.all_free f cover

-- ---- a list in strict order is told by its members

later : {X : Type 0} (x z : X) (xs : List X) → Contains xs z → Contains (x ∷ xs) z
later x z xs (k, l, e) = (suc k, omega arith, e)

after_head : {X : Type 0} (R : X → X → Type 0) (x z : X) (xs : List X) → AllPairs R (x ∷ xs) → Contains xs z → R x z
after_head R x z xs h (k, l, e) = let r = h 0 (suc k) z (omega arith) (omega arith) in subst (R x) e r

head_or_after : {X : Type 0} (R : X → X → Type 0) (y x : X) (ys : List X) → AllPairs R (y ∷ ys) → Contains (y ∷ ys) x → (y ≡ x) ⊎ R y x
head_or_after R y x ys h (zero, l, e) = inl e
head_or_after R y x ys h (suc k, l, e) = inr (after_head R y x ys h (k, omega arith, e))

same_heads : {X : Type 0} (R : X → X → Type 0) → ((x y : X) → R x y → R y x → ⊥) → (x y : X) (xs ys : List X) → AllPairs R (x ∷ xs) → AllPairs R (y ∷ ys)
    → Contains (y ∷ ys) x → Contains (x ∷ xs) y → x ≡ y
same_heads R asym x y xs ys hx hy cx cy =
    elim (head_or_after R y x ys hy cx) [
      | inl e ↦ sym e
      | inr after ↦ elim (head_or_after R x y xs hx cy) [
        | inl e ↦ e
        | inr before ↦ absurd (asym x y before after)
      ]
    ]

-- an element of the one tail that the other list has is in its tail
behind : {X : Type 0} (R : X → X → Type 0) → ((x : X) → R x x → ⊥) → (x y z : X) (xs ys : List X) → x ≡ y → AllPairs R (x ∷ xs) → Contains xs z
    → Contains (y ∷ ys) z → Contains ys z
behind R strict x y z xs ys same h q (zero, l, e) = absurd (strict x (subst (R x) (sym (same ∙ e)) (after_head R x z xs h q)))
behind R strict x y z xs ys same h q (suc k, l, e) = (k, omega arith, e)

pub same_from_members : {X : Type 0} (R : X → X → Type 0) → ((x : X) → R x x → ⊥) → ((x y : X) → R x y → R y x → ⊥) → (xs ys : List X)
    → AllPairs R xs → AllPairs R ys → ((x : X) → Contains xs x → Contains ys x) → ((x : X) → Contains ys x → Contains xs x) → xs ≡ ys
same_from_members R strict asym [] [] hx hy to from = refl
same_from_members R strict asym [] (y ∷ ys) hx hy to from = let r = from y (zero, omega arith, refl) in let l = r.1 in absurd (omega arith)
same_from_members R strict asym (x ∷ xs) [] hx hy to from = let r = to x (zero, omega arith, refl) in let l = r.1 in absurd (omega arith)
same_from_members {X} R strict asym (x ∷ xs) (y ∷ ys) hx hy to from =
    let heads : x ≡ y = same_heads R asym x y xs ys hx hy (to x (zero, omega arith, refl)) (from y (zero, omega arith, refl)) in
    let tails : xs ≡ ys = same_from_members R strict asym xs ys
    (λ i j d l m. hx (suc i) (suc j) d (omega arith) (omega arith))
    (λ i j d l m. hy (suc i) (suc j) d (omega arith) (omega arith))
    (λ z q. behind R strict x y z xs ys heads hx q (to z (later x z xs q)))
    (λ z q. behind R strict y x z ys xs (sym heads) hy q (from z (later y z ys q))) in
    let front : X → List X = λ z. z ∷ xs in
    let back : List X → List X = λ zs. y ∷ zs in
    ap front heads ∙ ap back tails

pub precedes_strict : (b : Block) → Precedes b b → ⊥
precedes_strict b (inl h) = absurd (omega arith)
precedes_strict b (inr h) = absurd (omega (arith, h.1))

pub precedes_one_way : (a b : Block) → Precedes a b → Precedes b a → ⊥
precedes_one_way a b (inl p) (inl q) = absurd (omega arith)
precedes_one_way a b (inl p) (inr q) = absurd (omega (arith, q.0))
precedes_one_way a b (inr p) (inl q) = absurd (omega (arith, p.0))
precedes_one_way a b (inr p) (inr q) = absurd (omega (arith, p.1, q.1))

pub unique_blocks : MaximalBlocksAreUnique
unique_blocks free a b ha hb = same_from_members Precedes precedes_strict precedes_one_way a b ha.ordered hb.ordered
    (λ c q. hb.all c (ha.each c q)) (λ c q. ha.all c (hb.each c q))
