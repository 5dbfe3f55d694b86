-- A block and its buddy, and the bits of the pairs when a block is put in or taken out: for `buddy_in`, `pair_bit`, `insert` and `remove`.
use Rattle.std.proofs.Common.{◌≡◌, ◌≢◌, ℕ, zero, suc, ◌+◌, ◌-◌, ◌*◌, ◌/◌, ◌^◌, ◌%◌, ◌<◌, ◌≤◌, ◌⊎◌, ◌↔◌, Bool, true, false, not, List, [], ◌∷◌, ◌++◌}
use Rattle.std.proofs.Common.{replicate, Option, Some, None, length, get_or, set, eqb, eq-eqb, refl, sym, ap, ◌∙◌, subst, inl, inr, arith, length-set}
use Rattle.std.specs.List.{Contains}
use Rattle.std.specs.Option.{MatchOption}
use Rattle.std.proofs.lemmas.List.{get_or_default, get_or_past, get_or_push, get_or_append_left, get_or-replicate, length-replicate}
use Rattle.std.proofs.lemmas.List.{get_or-set_same, get_or-set_other}
use Rattle.std.proofs.lemmas.Bool.{cases_lt, cases_eq, false≢true, ne_eqb, cond-true, cond-false, not-true, not_from_false, false_from_ne_true}
use Rattle.std.proofs.lemmas.Nat.{div-add-mod', pow_pos, pow-add, mod-pow-add, mod_below, div-mul-add, mod-mul-add, le-div}
use Rattle.std.proofs.Math.Nat.{mul-mod_left, add-mod_right, mul-le-mul_right}
use Rattle.bit_levels.specs.Sets.{IsIn}
use Rattle.zone_blocks.specs.declared.block.Block.{Block}
use Rattle.zone_blocks.specs.{IsBlock, HasPairBit, buddy, Inserts, RemovesBlock, IsOneOfPair, pair_of, bit_of, toggled, AreBitLists, ArePairBits}
use Rattle.zone_blocks.specs.{ChangesOne}
use Rattle.zone_blocks.proofs.Filling.{same_block}

-- ---- a block and its buddy

pub twice : (k : ℕ) → 2 ^ (k + 1) ≡ 2 ^ k + 2 ^ k
twice k = let p = pow-add 2 k 1 in omega (arith, p)

pub buddy_of_lower : (b : Block) → b.at % 2 ^ (b.order + 1) ≡ 0 → (buddy b).at ≡ b.at + 2 ^ b.order
buddy_of_lower b h = cond-true (eqb (b.at % 2 ^ (b.order + 1)) 0) (b.at + 2 ^ b.order) (b.at - 2 ^ b.order) (eq-eqb _ _ h)

pub buddy_of_upper : (b : Block) → b.at % 2 ^ (b.order + 1) ≢ 0 → (buddy b).at ≡ b.at - 2 ^ b.order
buddy_of_upper b h = cond-false (eqb (b.at % 2 ^ (b.order + 1)) 0) (b.at + 2 ^ b.order) (b.at - 2 ^ b.order) (ne_eqb _ _ h)

-- the first frame of the pair
abbrev pub pair_start : Block → ℕ
pair_start b = pair_of b * 2 ^ (b.order + 1)

one_bit : (x m : ℕ) → x < 2 → (x * m ≡ 0 → ⊥) → x ≡ 1
one_bit zero m l h = absurd (h (omega arith))
one_bit (suc zero) m l h = refl
one_bit (suc (suc x)) m l h = absurd (omega arith)

no_bit : (x m : ℕ) → 0 < m → x * m ≡ 0 → x ≡ 0
no_bit zero m pos e = refl
no_bit (suc x) m pos e = absurd (omega arith)

-- an aligned block that is no lower half begins 2 ^ order after its pair
pub upper_at : (b : Block) → b.at % 2 ^ b.order ≡ 0 → b.at % 2 ^ (b.order + 1) ≢ 0 → b.at % 2 ^ (b.order + 1) ≡ 2 ^ b.order
upper_at b aligned h =
    let one : ℕ = 1 in
    let s : one + b.order ≡ b.order + 1 = omega arith in
    let p : b.at % 2 ^ (b.order + 1) ≡ (b.at / 2 ^ b.order % 2) * 2 ^ b.order + b.at % 2 ^ b.order = rw s at (mod-pow-add b.at 1 b.order) in
    let bit : b.at / 2 ^ b.order % 2 ≡ 1 = one_bit (b.at / 2 ^ b.order % 2) (2 ^ b.order)
    (mod_below (b.at / 2 ^ b.order) 2 (omega arith)) (λ z. h (omega (arith, p, aligned, z))) in
    let p' = rw bit at p in
    omega (arith, p', aligned)

-- by the number of the block: an even one is a lower half, and an odd one an upper
pub half_is : (b : Block) (k : ℕ) → b.at % 2 ^ b.order ≡ 0 → k ≡ b.order
    → (b.at / 2 ^ k % 2 ≡ 0 → (buddy b).at ≡ b.at + 2 ^ b.order) × ((b.at / 2 ^ k % 2 ≡ 0 → ⊥) → (buddy b).at ≡ b.at - 2 ^ b.order)
half_is b k aligned same =
    let one : ℕ = 1 in
    let s : one + b.order ≡ b.order + 1 = omega arith in
    let p : b.at % 2 ^ (b.order + 1) ≡ (b.at / 2 ^ b.order % 2) * 2 ^ b.order + b.at % 2 ^ b.order = rw s at (mod-pow-add b.at 1 b.order) in
    let bit : ℕ → ℕ = λ j. b.at / 2 ^ j % 2 in
    let moved : bit k ≡ bit b.order = ap bit same in
    let pos = pow_pos b.order in (
      λ z.
          let zero_bit : b.at / 2 ^ b.order % 2 ≡ 0 = sym moved ∙ z in
          let p' = rw zero_bit at p in
          buddy_of_lower b (omega (arith, p', aligned)),
      λ nz.
          let odd : b.at / 2 ^ b.order % 2 ≡ 1 = one_bit (b.at / 2 ^ b.order % 2) (2 ^ b.order) (mod_below (b.at / 2 ^ b.order) 2 (omega arith))
          (λ z. nz (moved ∙ no_bit (b.at / 2 ^ b.order % 2) (2 ^ b.order) pos z)) in
          let p' = rw odd at p in
          buddy_of_upper b (λ z. absurd (omega (arith, p', aligned, z, pos))),
    )

pub sides : (b : Block) → b.at % 2 ^ b.order ≡ 0
    → ((b.at ≡ pair_start b) × ((buddy b).at ≡ pair_start b + 2 ^ b.order)) ⊎ ((b.at ≡ pair_start b + 2 ^ b.order) × ((buddy b).at ≡ pair_start b))
sides b aligned =
    let e : pair_of b * 2 ^ (b.order + 1) + b.at % 2 ^ (b.order + 1) ≡ b.at = div-add-mod' b.at (2 ^ (b.order + 1)) in
    elim (cases_eq (b.at % 2 ^ (b.order + 1)) 0) [
      | inl h ↦ let x = buddy_of_lower b h in inl (omega (arith, e, h), omega (arith, e, h, x))
      | inr h ↦
          let x = buddy_of_upper b h in
          let u = upper_at b aligned h in
          inr (omega (arith, e, u), omega (arith, e, u, x))
    ]

-- the buddy is of the same pair, and its buddy is the block
pub buddy_pair : (b : Block) → b.at % 2 ^ b.order ≡ 0 → (pair_of (buddy b) ≡ pair_of b) × (buddy (buddy b) ≡ b)
buddy_pair b aligned =
    let k = b.order in
    let t = twice k in
    let pos = pow_pos k in
    elim (sides b aligned) [
      | inl h ↦
          let q : pair_of (buddy b) ≡ pair_of b = rw h.1 (div-mul-add (pair_of b) (2 ^ (k + 1)) (2 ^ k) (omega arith)) in
          let r : (buddy b).at % 2 ^ (k + 1) ≡ 2 ^ k = rw h.1 (mod-mul-add (pair_of b) (2 ^ (k + 1)) (2 ^ k) (omega arith)) in
          let x = buddy_of_upper (buddy b) (λ z. absurd (omega (arith, z, r, pos))) in
          (q, same_block (buddy (buddy b)) b (x ∙ omega (arith, h.0, h.1)) refl)
      | inr h ↦
          let z : pair_start b + 0 ≡ pair_start b = omega arith in
          let q : pair_of (buddy b) ≡ pair_of b = rw h.1 (rw z at (div-mul-add (pair_of b) (2 ^ (k + 1)) 0 (omega (arith, t, pos)))) in
          let r : (buddy b).at % 2 ^ (k + 1) ≡ 0 = rw h.1 (mul-mod_left (pair_of b) (2 ^ (k + 1))) in
          let x = buddy_of_lower (buddy b) r in
          (q, same_block (buddy (buddy b)) b (x ∙ omega (arith, h.0, h.1)) refl)
    ]

pub buddy_has_bit : (n : ℕ) (b : Block) → HasPairBit n b → HasPairBit n (buddy b)
buddy_has_bit n b h = record { order = h.order; block = h.buddy_too; buddy_too = subst (IsBlock n) (sym (buddy_pair b h.block.aligned).1) h.block }

pub buddy_differs : (b : Block) → b.at % 2 ^ b.order ≡ 0 → buddy b ≡ b → ⊥
buddy_differs b aligned e =
    let address : Block → ℕ = λ z. z.at in
    let same = ap address e in
    let pos = pow_pos b.order in
    elim (sides b aligned) [
      | inl h ↦ absurd (omega (arith, h.0, h.1, same, pos))
      | inr h ↦ absurd (omega (arith, h.0, h.1, same, pos))
    ]

-- two blocks of one order and one pair are one, or buddies
pub same_pair : (b c : Block) → b.at % 2 ^ b.order ≡ 0 → c.at % 2 ^ c.order ≡ 0 → b.order ≡ c.order → pair_of b ≡ pair_of c → (b ≡ c) ⊎ (b ≡ buddy c)
same_pair b c hb hc o p =
    let start : ℕ → ℕ → ℕ = λ k q. q * 2 ^ (k + 1) in
    let size : ℕ → ℕ = λ k. 2 ^ k in
    let s : pair_start b ≡ pair_start c = ap (start b.order) p ∙ (let f : ℕ → ℕ = λ k. start k (pair_of c) in ap f o) in
    let z = ap size o in
    elim (sides b hb) [
      | inl x ↦ elim (sides c hc) [
        | inl y ↦ inl (same_block b c (omega (arith, x.0, y.0, s)) o)
        | inr y ↦ inr (same_block b (buddy c) (omega (arith, x.0, y.1, s)) o)
      ]
      | inr x ↦ elim (sides c hc) [
        | inl y ↦ inr (same_block b (buddy c) (omega (arith, x.0, y.1, s, z)) o)
        | inr y ↦ inl (same_block b c (omega (arith, x.0, y.0, s, z)) o)
      ]
    ]

-- ---- membership can be decided

pub decide_same : (a b : Block) → (a ≡ b) ⊎ (a ≡ b → ⊥)
decide_same a b =
    elim (cases_eq a.at b.at) [
      | inl e ↦ elim (cases_eq a.order b.order) [
        | inl o ↦ inl (same_block a b e o)
        | inr ne ↦ inr (λ h. let order : Block → ℕ = λ z. z.order in ne (ap order h))
      ]
      | inr ne ↦ inr (λ h. let address : Block → ℕ = λ z. z.at in ne (ap address h))
    ]

none_of_both : (x : Block) (xs : List Block) (b : Block) → (x ≡ b → ⊥) → (Contains xs b → ⊥) → Contains (x ∷ xs) b → ⊥
none_of_both x xs b ne later (zero, l, e) = ne e
none_of_both x xs b ne later (suc k, l, e) = later (k, omega arith, e)

pub decide_contains : (xs : List Block) (b : Block) → Contains xs b ⊎ (Contains xs b → ⊥)
decide_contains [] b = inr (λ (k, l, e). absurd (omega arith))
decide_contains (x ∷ xs) b =
    elim (decide_same x b) [
      | inl e ↦ inl (zero, omega arith, e)
      | inr ne ↦ elim (decide_contains xs b) [
        | inl c ↦ inl (suc c.0, omega (arith, c.1), c.2)
        | inr not_later ↦ inr (none_of_both x xs b ne not_later)
      ]
    ]

-- ---- one block more or less

one_kept : (old new : List Block) (c b : Block) → ChangesOne old new c → b ≢ c → buddy b ≢ c → IsOneOfPair old b → IsOneOfPair new b
one_kept old new c b h nb nx (inl p) = inl (h.keeps b nb p.0, λ x. p.1 (h.only (buddy b) nx x))
one_kept old new c b h nb nx (inr p) = inr ((λ x. p.0 (h.only b nb x)), h.keeps (buddy b) nx p.1)

one_back : (old new : List Block) (c b : Block) → ChangesOne old new c → b ≢ c → buddy b ≢ c → IsOneOfPair new b → IsOneOfPair old b
one_back old new c b h nb nx (inl p) = inl (h.only b nb p.0, λ x. p.1 (h.keeps (buddy b) nx x))
one_back old new c b h nb nx (inr p) = inr ((λ x. p.0 (h.keeps b nb x)), h.only (buddy b) nx p.1)

pub one_swap : (blocks : List Block) (b : Block) → b.at % 2 ^ b.order ≡ 0 → IsOneOfPair blocks b → IsOneOfPair blocks (buddy b)
one_swap blocks b aligned (inl p) =
    let back = sym (buddy_pair b aligned).1 in
    let C : Block → Type 0 = λ z. Contains blocks z in
    inr (p.1, subst C back p.0)
one_swap blocks b aligned (inr p) =
    let back = sym (buddy_pair b aligned).1 in
    let N : Block → Type 0 = λ z. ¬ Contains blocks z in
    inl (p.1, subst N back p.0)

-- where the bit told whether one of the two was there, the toggled bit tells it afterwards
flip_in : (old new : List Block) (c : Block) (bit : Bool) → ChangesOne old new c → (buddy c ≡ c → ⊥)
    → ((bit ≡ true) ↔ IsOneOfPair old c) → not bit ≡ true → IsOneOfPair new c
flip_in old new c bit h ne is t =
    let not_one : IsOneOfPair old c → ⊥ = λ o. false≢true (sym (not-true bit t) ∙ is.1 o) in
    elim h.changed [
      | inl gone ↦ elim (decide_contains old (buddy c)) [
        | inl x ↦ inr (gone.1, h.keeps (buddy c) ne x)
        | inr x ↦ absurd (not_one (inl (gone.0, x)))
      ]
      | inr came ↦ inl (came.1, λ x. not_one (inr (came.0, h.only (buddy c) ne x)))
    ]

not_both : (old new : List Block) (c : Block) → ChangesOne old new c → (buddy c ≡ c → ⊥) → IsOneOfPair old c → IsOneOfPair new c → ⊥
not_both old new c h ne (inl p) (inl q) = elim h.changed [ inl gone ↦ gone.1 q.0 | inr came ↦ came.0 p.0 ]
not_both old new c h ne (inl p) (inr q) = p.1 (h.only (buddy c) ne q.1)
not_both old new c h ne (inr p) (inl q) = q.1 (h.keeps (buddy c) ne p.1)
not_both old new c h ne (inr p) (inr q) = elim h.changed [ inl gone ↦ p.0 gone.0 | inr came ↦ q.0 came.1 ]

flip_out : (old new : List Block) (c : Block) (bit : Bool) → ChangesOne old new c → (buddy c ≡ c → ⊥)
    → ((bit ≡ true) ↔ IsOneOfPair old c) → IsOneOfPair new c → not bit ≡ true
flip_out old new c bit h ne is one =
    not_from_false bit (false_from_ne_true bit (λ t. not_both old new c h ne (is.0 t) one))

pub bits_kept : (n : ℕ) (old new : List Block) (c : Block) (pairs : List (List Bool)) → ArePairBits n old pairs
    → ChangesOne old new c → ¬ HasPairBit n c → ArePairBits n new pairs
bits_kept n old new c pairs h change none =
    let C : Block → Type 0 = λ z. HasPairBit n z in
    record {
      lists = h.lists;
      bits = λ b has.
          let nb : b ≢ c = λ e. none (subst C e has) in
          let nx : buddy b ≢ c = λ e. none (subst C e (buddy_has_bit n b has)) in
          let is = h.bits b has in
          ((λ t. one_kept old new c b change nb nx (is.0 t)), (λ o. is.1 (one_back old new c b change nb nx o)));
    }

le_pair : (n : ℕ) (b : Block) → pair_start b + 2 ^ (b.order + 1) ≤ n → pair_of b < n / 2 ^ (b.order + 1)
le_pair n b h = let r = le-div (pair_of b + 1) n (2 ^ (b.order + 1)) (pow_pos (b.order + 1)) (omega arith) in omega arith

pair_within : (n : ℕ) (b : Block) → HasPairBit n b → pair_of b < n / 2 ^ (b.order + 1)
pair_within n b h =
    let t = twice b.order in
    let i = h.block.inside in
    let j = h.buddy_too.inside in
    elim (sides b h.block.aligned) [
      | inl x ↦ le_pair n b (omega (arith, x.1, t))
      | inr x ↦ le_pair n b (omega (arith, x.0, t))
    ]

pub lists_toggled : (n : ℕ) (c : Block) (pairs : List (List Bool)) → AreBitLists n pairs → c.order < 10 → AreBitLists n (toggled pairs c)
lists_toggled n c pairs h l =
    let count = h.count in
    let bits : List Bool = get_or pairs c.order [] in
    let new : List Bool = set bits (pair_of c) (not (bit_of pairs c)) in
    record {
      count = length-set pairs c.order new ∙ count;
      each = λ k m. elim (cases_eq k c.order) [
        | inl e ↦ rw (e, get_or-set_same pairs c.order new [] (omega (arith, count))) (length-set bits (pair_of c) (not (bit_of pairs c)) ∙ h.each c.order l)
        | inr ne ↦ rw (get_or-set_other pairs c.order k new [] ne) (h.each k m)
      ];
    }

-- the toggled bits read: that of the pair is the other value, and every other is as before
read_toggled : (n : ℕ) (c : Block) (pairs : List (List Bool)) → AreBitLists n pairs → HasPairBit n c
    → (bit_of (toggled pairs c) c ≡ not (bit_of pairs c))
    × ((b : Block) → ((b.order ≡ c.order) × (pair_of b ≡ pair_of c) → ⊥) → bit_of (toggled pairs c) b ≡ bit_of pairs b)
read_toggled n c pairs h has =
    let count = h.count in
    let l = has.order in
    let bits : List Bool = get_or pairs c.order [] in
    let new : List Bool = set bits (pair_of c) (not (bit_of pairs c)) in
    let here : get_or (toggled pairs c) c.order [] ≡ new = get_or-set_same pairs c.order new [] (omega (arith, count)) in
    let size = h.each c.order l in
    let within = pair_within n c has in (
      rw here (get_or-set_same bits (pair_of c) (not (bit_of pairs c)) false (omega (arith, size, within))),
      λ b apart. elim (cases_eq b.order c.order) [
        | inl e ↦
            let other : pair_of b ≢ pair_of c = λ p. apart (e, p) in
            let K : ℕ → Type 0 = λ k. get_or (get_or (toggled pairs c) k []) (pair_of b) false ≡ get_or (get_or pairs k []) (pair_of b) false in
            subst K (sym e) (rw here (get_or-set_other bits (pair_of c) (pair_of b) (not (bit_of pairs c)) false other))
        | inr ne ↦
            let read : List Bool → Bool = λ xs. get_or xs (pair_of b) false in
            ap read (get_or-set_other pairs c.order b.order new [] ne)
      ],
    )

buddy_bit : (n : ℕ) (blocks : List Block) (c : Block) (pairs : List (List Bool)) → HasPairBit n c → ((bit_of pairs c ≡ true) ↔ IsOneOfPair blocks c)
    → (bit_of pairs (buddy c) ≡ true) ↔ IsOneOfPair blocks (buddy c)
buddy_bit n blocks c pairs has is =
    let same = (buddy_pair c has.block.aligned).0 in
    let read : ℕ → Bool = λ q. get_or (get_or pairs c.order []) q false in
    let back = (buddy_pair c has.block.aligned).1 in
    let O : Block → Type 0 = λ z. IsOneOfPair blocks z in (
      (λ t. one_swap blocks c has.block.aligned (is.0 (sym (ap read same) ∙ t))),
      (λ o. ap read same ∙ is.1 (subst O back (one_swap blocks (buddy c) has.buddy_too.aligned o))),
    )

elsewhere : (n : ℕ) (old new : List Block) (c b : Block) (pairs : List (List Bool)) → ArePairBits n old pairs
    → ChangesOne old new c → HasPairBit n c → HasPairBit n b
    → bit_of (toggled pairs c) b ≡ bit_of pairs b → ((b.order ≡ c.order) × (pair_of b ≡ pair_of c) → ⊥)
    → (bit_of (toggled pairs c) b ≡ true) ↔ IsOneOfPair new b
elsewhere n old new c b pairs h change has hb same apart =
    let order : Block → ℕ = λ z. z.order in
    let pair : Block → ℕ = λ z. pair_of z in
    let nb : b ≢ c = λ e. apart (ap order e, ap pair e) in
    let nx : buddy b ≢ c = λ e. apart (ap order e, sym (buddy_pair b hb.block.aligned).0 ∙ ap pair e) in
    let is = h.bits b hb in
    ((λ t. one_kept old new c b change nb nx (is.0 (sym same ∙ t))), (λ o. same ∙ is.1 (one_back old new c b change nb nx o)))

pub bits_toggled : (n : ℕ) (old new : List Block) (c : Block) (pairs : List (List Bool)) → ArePairBits n old pairs
    → ChangesOne old new c → HasPairBit n c → ArePairBits n new (toggled pairs c)
bits_toggled n old new c pairs h change has =
    let r = read_toggled n c pairs h.lists has in
    let ne = buddy_differs c has.block.aligned in
    let before = h.bits c has in
    let truth : Bool → Type 0 = λ v. v ≡ true in
    let here : (bit_of (toggled pairs c) c ≡ true) ↔ IsOneOfPair new c = (
      (λ t. flip_in old new c (bit_of pairs c) change ne before (sym r.0 ∙ t)),
      (λ o. r.0 ∙ flip_out old new c (bit_of pairs c) change ne before o),
    ) in
    let there : (bit_of (toggled pairs c) (buddy c) ≡ true) ↔ IsOneOfPair new (buddy c) =
    buddy_bit n new c (toggled pairs c) has here in
    let P : Block → Type 0 = λ z. (bit_of (toggled pairs c) z ≡ true) ↔ IsOneOfPair new z in
    record {
      lists = lists_toggled n c pairs h.lists has.order;
      bits = λ b hb. elim (cases_eq b.order c.order) [
        | inl o ↦ elim (cases_eq (pair_of b) (pair_of c)) [
          | inl p ↦ elim (same_pair b c hb.block.aligned has.block.aligned o p) [
            | inl e ↦ subst P (sym e) here
            | inr e ↦ subst P (sym e) there
          ]
          | inr np ↦ elsewhere n old new c b pairs h change has hb (r.1 b (λ q. np q.1)) (λ q. np q.1)
        ]
        | inr other ↦ elsewhere n old new c b pairs h change has hb (r.1 b (λ q. other q.0)) (λ q. other q.0)
      ];
    }

-- ---- no block, and no bit

none_there : (b : Block) → Contains [] b → ⊥
none_there b (k, l, e) = absurd (omega arith)

pub bits_of_none : (n : ℕ) (pairs : List (List Bool)) → AreBitLists n pairs → ((k i : ℕ) → k < 10 → IsIn (get_or pairs k []) i → ⊥) → ArePairBits n [] pairs
bits_of_none n pairs lists none = record {
  lists = lists;
  bits = λ b has. (
    (λ t. absurd (none b.order (pair_of b) has.order t)),
    (λ o. absurd (elim o [ inl p ↦ none_there b p.0 | inr p ↦ none_there (buddy b) p.1 ])),
  );
}

-- ---- as the code finds the bits

pub has_bit_from : (n : ℕ) (b : Block) → IsBlock n b → b.order < 10 → pair_of b < n / 2 ^ (b.order + 1) → HasPairBit n b
has_bit_from n b block below lt =
    let k = b.order in
    let t = twice k in
    let order = block.order in
    let e = div-add-mod' n (2 ^ (k + 1)) in
    let m = mul-le-mul_right {m = pair_of b + 1} {n = n / 2 ^ (k + 1)} (2 ^ (k + 1)) (omega arith) in
    record {
      order = below;
      block = block;
      buddy_too = elim (sides b block.aligned) [
        | inl h ↦
            let z : (buddy b).at ≡ b.at + 2 ^ k = omega (arith, h.0, h.1) in
            record { order = order; aligned = rw z (add-mod_right b.at (2 ^ k) ∙ block.aligned); inside = omega (arith, h.1, e, m, t) }
        | inr h ↦
            let s = add-mod_right (pair_start b) (2 ^ k) in
            let a : (pair_start b + 2 ^ k) % 2 ^ k ≡ 0 = rw h.0 at block.aligned in
            record { order = order; aligned = rw h.1 (sym s ∙ a); inside = omega (arith, h.1, e, m, t) }
      ];
    }

pub number_of_pair : (n : ℕ) (b : Block) (next : ℕ) → next ≡ b.order + 1 → next ≤ 10 → IsBlock n b
    → (b.at / 2 ^ next < n / 2 ^ next → HasPairBit n b × (b.at / 2 ^ next ≡ pair_of b)) × ((b.at / 2 ^ next < n / 2 ^ next → ⊥) → ¬ HasPairBit n b)
number_of_pair n b next e le block =
    let L : ℕ → Type 0 = λ i. b.at / 2 ^ i < n / 2 ^ i in
    let part : ℕ → ℕ = λ i. b.at / 2 ^ i in (
      λ lt. (has_bit_from n b block (omega arith) (subst L e lt), ap part e),
      λ not has. not (subst L (sym e) (pair_within n b has)),
    )

pub slot_within : (n : ℕ) (pairs : List (List Bool)) → AreBitLists n pairs → (b : Block) → HasPairBit n b
    → (k number : ℕ) (bits : List Bool) → k ≡ b.order → number ≡ pair_of b → bits ≡ get_or pairs k bits → number < length bits
slot_within n pairs h b has k number bits e en here =
    let count = h.count in
    let l = has.order in
    let same : bits ≡ get_or pairs b.order [] = rw e at here ∙ get_or_default pairs b.order bits [] (omega (arith, count)) in
    let size : List Bool → ℕ = λ xs. length xs in
    let s = ap size same ∙ h.each b.order l in
    let w = pair_within n b has in
    omega (arith, s, w, en)

pub toggled_is : (n : ℕ) (pairs : List (List Bool)) → AreBitLists n pairs → (b : Block) → b.order < 10
    → (k number : ℕ) (bits new : List Bool) → k ≡ b.order → number ≡ pair_of b → bits ≡ get_or pairs k bits
    → new ≡ set bits number (not (get_or bits number false)) → set pairs k new ≡ toggled pairs b
toggled_is n pairs h b l k number bits new e en here is =
    let count = h.count in
    let same : bits ≡ get_or pairs b.order [] = rw e at here ∙ get_or_default pairs b.order bits [] (omega (arith, count)) in
    let put : ℕ → List (List Bool) = λ i. set pairs i new in
    let flip : ℕ → List Bool = λ q. set bits q (not (get_or bits q false)) in
    let flip' : List Bool → List Bool = λ xs. set xs (pair_of b) (not (get_or xs (pair_of b) false)) in
    let put' : List Bool → List (List Bool) = λ xs. set pairs b.order xs in
    ap put e ∙ ap put' (is ∙ ap flip en ∙ ap flip' same)

pub inserts_one : (old new : List Block) (b : Block) → ¬ Contains old b → Inserts old b new → ChangesOne old new b
inserts_one old new b none h = record {
  changed = inr (none, h.there);
  keeps = λ c ne q. h.keeps c q;
  only = λ c ne q. elim (h.only c q) [ inl was ↦ was | inr e ↦ absurd (ne e) ];
}

pub removes_one : (old new : List Block) (b : Block) → Contains old b → RemovesBlock old b new → ChangesOne old new b
removes_one old new b there h = record {
  changed = inl (there, h.gone);
  keeps = λ c ne q. h.keeps c q ne;
  only = λ c ne q. h.only c q;
}

-- ---- the bits of no blocks

-- one more list of bits, none of which is 1, where the list of order k has as many bits as the size says
pub pushed_bits : (size : ℕ → ℕ) (e : ℕ) (all new : List (List Bool)) (bits : List Bool) → length all ≡ e
    → bits ≡ replicate (size e) false → new ≡ all ++ bits ∷ []
    → ((k : ℕ) → k < e → length (get_or all k []) ≡ size k) → ((k : ℕ) → k < e + 1 → length (get_or new k []) ≡ size k)
pushed_bits size e all new bits count is grown each k l =
    elim (cases_lt k e) [
      | inl lt ↦ rw (grown, get_or_append_left all (bits ∷ []) [] k (omega arith)) (each k lt)
      | inr ge ↦
          let here : k ≡ e = omega arith in
          rw (grown, here, get_or_push all bits [] e count, is) (length-replicate (size e) false)
    ]

pub pushed_none : (m e : ℕ) (pairs new : List (List Bool)) (bits : List Bool) → length pairs ≡ e → bits ≡ replicate m false → new ≡ pairs ++ bits ∷ []
    → ((k i : ℕ) → k < e → IsIn (get_or pairs k []) i → ⊥) → ((k i : ℕ) → k < e + 1 → IsIn (get_or new k []) i → ⊥)
pushed_none m e pairs new bits count is grown none k i l t =
    elim (cases_lt k e) [
      | inl lt ↦ none k i lt (rw (grown, get_or_append_left pairs (bits ∷ []) [] k (omega arith)) at t)
      | inr ge ↦
          let here : k ≡ e = omega arith in
          let t' = rw (grown, here, get_or_push pairs bits [] e count, is) at t in
          elim (cases_lt i m) [
            | inl lt ↦ absurd (false≢true (sym (get_or-replicate m i false false lt) ∙ t'))
            | inr past ↦ absurd (false≢true (sym (get_or_past (replicate m false) i false (omega (arith, length-replicate {A = Bool} m false))) ∙ t'))
          ]
    ]

pub pair_read : (n : ℕ) (blocks : List Block) (pairs : List (List Bool)) → ArePairBits n blocks pairs → (b : Block) (r : Option Bool)
    → MatchOption r (¬ HasPairBit n b) (λ bit. HasPairBit n b × (bit ≡ bit_of pairs b))
    → MatchOption r (¬ HasPairBit n b) (λ bit. HasPairBit n b × ((bit ≡ true) ↔ IsOneOfPair blocks b))
pair_read n blocks pairs h b None none = none
pair_read n blocks pairs h b (Some bit) is =
    let r = h.bits b is.0 in
    (is.0, ((λ t. r.0 (sym is.1 ∙ t)), (λ o. is.1 ∙ r.1 o)))
