-- The blocks that the bits of all orders tell, and what they become when one bit is changed: for each call of `FreeAreas`.
use Rattle.std.proofs.Common.{◌≡◌, ◌≢◌, ℕ, zero, ◌+◌, ◌*◌, ◌/◌, ◌^◌, ◌<◌, Bool, true, false, List, [], ◌∷◌, length, get_or, set, refl, sym}
use Rattle.std.proofs.Common.{ap, ◌∙◌, subst, inl, inr, arith, length-set}
use Rattle.std.specs.List.{AllPairs, Contains, remove}
use Rattle.std.proofs.lemmas.List.{get_or_past, get_or-set_same, get_or-set_other}
use Rattle.std.proofs.lemmas.List.Kept.{AllPairs-filter}
use Rattle.std.proofs.lemmas.List.Quantifiers.{all_pairs_remove}
use Rattle.std.proofs.lemmas.List.Edits.{length-remove}
use Rattle.std.proofs.lemmas.Bool.{cases_lt, cases_eq, false≢true}
use Rattle.std.proofs.lemmas.Nat.{div-mul-add, pow_pos}
use Rattle.zone_blocks.specs.declared.block.Block.{Block}
use Rattle.zone_blocks.specs.Block.{IsBlock, Covers}
use Rattle.zone_blocks.specs.Areas.{AreBlocksApart, Precedes, Inserts, RemovesBlock, Overlaps}
use Rattle.zone_blocks.specs.OrderLists.{blocks_of, blocks_of_zone, has_block_bit, with_bit, AreBlockBits, AreApart, MeetsRange}
use Rattle.zone_blocks.proofs.Lists.{contains_filter, contains_from_filter, number_within, numbered_is_block, in_zone, from_zone, zone_ordered}
use Rattle.zone_blocks.proofs.Filling.{same_block}
use Rattle.zone_blocks.proofs.Pairing.{decide_same}
use Rattle.zone_blocks.proofs.Unique.{same_from_members, precedes_strict, precedes_one_way}
use Rattle.zone_blocks.proofs.Edits.{contains_remove_old, contains_remove_keeps, contains_remove_gone}

-- ---- the blocks that the bits tell

pub there : (n : ℕ) (bits : List (List Bool)) (b : Block) → IsBlock n b → has_block_bit bits b ≡ true → Contains (blocks_of n bits) b
unfolding blocks_of
there n bits b h t = contains_filter (has_block_bit bits) (blocks_of_zone n) b (in_zone n b h) t

pub from_there : (n : ℕ) (bits : List (List Bool)) (b : Block) → Contains (blocks_of n bits) b → IsBlock n b × (has_block_bit bits b ≡ true)
unfolding blocks_of
from_there n bits b c = let r = contains_from_filter (has_block_bit bits) (blocks_of_zone n) b c in (from_zone n b r.0, r.1)

pub blocks_ordered : (n : ℕ) (bits : List (List Bool)) → AllPairs Precedes (blocks_of n bits)
unfolding blocks_of
blocks_ordered n bits = AllPairs-filter Precedes (has_block_bit bits) (blocks_of_zone n) (zone_ordered n)

pub blocks_apart : (n : ℕ) (bits : List (List Bool)) → AreApart (blocks_of n bits) → AreBlocksApart n (blocks_of n bits)
blocks_apart n bits apart = record {
  each = λ b c. (from_there n bits b c).0;
  apart = apart;
  ordered = blocks_ordered n bits;
}

pub none_in : (xs : List Block) → ((b : Block) → Contains xs b → ⊥) → xs ≡ []
none_in [] h = refl
none_in (x ∷ xs) h = absurd (h x (zero, omega arith, refl))

pub no_blocks : (n : ℕ) (bits : List (List Bool)) → ((k i : ℕ) → get_or (get_or bits k []) i false ≡ true → ⊥) → blocks_of n bits ≡ []
no_blocks n bits h = none_in (blocks_of n bits) (λ b c. h b.order (b.at / 2 ^ b.order) (from_there n bits b c).1)

-- ---- one bit changed

pub bits_put : (n : ℕ) (bits : List (List Bool)) (k i : ℕ) (v : Bool) → AreBlockBits n bits → k < 11 → AreBlockBits n (with_bit bits k i v)
bits_put n bits k i v h l =
    let count = h.count in
    let new : List Bool = set (get_or bits k []) i v in
    record {
      count = length-set bits k new ∙ count;
      each = λ j m. elim (cases_eq j k) [
        | inl e ↦ rw (e, get_or-set_same bits k new [] (omega (arith, count))) (length-set (get_or bits k []) i v ∙ h.each k l)
        | inr ne ↦ rw (get_or-set_other bits k j new [] ne) (h.each j m)
      ];
    }

-- the bit of a block
abbrev pub number_of : Block → ℕ
number_of b = b.at / 2 ^ b.order

pub read_same : (n : ℕ) (bits : List (List Bool)) (b : Block) (v : Bool) → AreBlockBits n bits → IsBlock n b
    → has_block_bit (with_bit bits b.order (number_of b) v) b ≡ v
read_same n bits b v h is =
    let count = h.count in
    let o = is.order in
    let size = h.each b.order (omega arith) in
    let w = number_within n b is in
    let new : List Bool = set (get_or bits b.order []) (number_of b) v in
    rw (get_or-set_same bits b.order new [] (omega (arith, count, o)))
    (get_or-set_same (get_or bits b.order []) (number_of b) v false (omega (arith, size, w.0)))

same_number : (n : ℕ) (b c : Block) → IsBlock n b → IsBlock n c → c.order ≡ b.order → number_of c ≡ number_of b → c ≡ b
same_number n b c hb hc o e =
    let wb = (number_within n b hb).1 in
    let wc = (number_within n c hc).1 in
    let size : ℕ → ℕ = λ k. number_of c * 2 ^ k in
    let scale : ℕ → ℕ = λ i. i * 2 ^ b.order in
    same_block c b (sym wc ∙ ap size o ∙ ap scale e ∙ wb) o

pub read_other : (n : ℕ) (bits : List (List Bool)) (b c : Block) (v : Bool) → IsBlock n b → IsBlock n c → (c ≡ b → ⊥)
    → has_block_bit (with_bit bits b.order (number_of b) v) c ≡ has_block_bit bits c
read_other n bits b c v hb hc ne =
    let new : List Bool = set (get_or bits b.order []) (number_of b) v in
    elim (cases_eq c.order b.order) [
      | inr other ↦ let read : List Bool → Bool = λ xs. get_or xs (number_of c) false in ap read (get_or-set_other bits b.order c.order new [] other)
      | inl e ↦
          let apart : number_of c ≢ number_of b = λ q. ne (same_number n b c hb hc e q) in
          elim (cases_lt b.order (length bits)) [
            | inl l ↦
                let K : ℕ → Type 0 = λ k. get_or (get_or (set bits b.order new) k []) (number_of c) false ≡ get_or (get_or bits k []) (number_of c) false in
                subst K (sym e) (rw (get_or-set_same bits b.order new [] l)
                (get_or-set_other (get_or bits b.order []) (number_of b) (number_of c) v false apart))
            | inr past ↦
                let a : get_or (set bits b.order new) c.order [] ≡ [] =
                get_or_past (set bits b.order new) c.order [] (omega (arith, length-set bits b.order new)) in
                let d : get_or bits c.order [] ≡ [] = get_or_past bits c.order [] (omega arith) in
                let read : List Bool → Bool = λ xs. get_or xs (number_of c) false in
                ap read (a ∙ sym d)
          ]
    ]

pub inserts : (n : ℕ) (bits : List (List Bool)) (b : Block) → AreBlockBits n bits → IsBlock n b
    → Inserts (blocks_of n bits) b (blocks_of n (with_bit bits b.order (number_of b) true))
inserts n bits b h is =
    let new = with_bit bits b.order (number_of b) true in
    record {
      there = there n new b is (read_same n bits b true h is);
      keeps = λ c q. elim (decide_same c b) [
        | inl e ↦ subst (Contains (blocks_of n new)) (sym e) (there n new b is (read_same n bits b true h is))
        | inr ne ↦
            let r = from_there n bits c q in
            there n new c r.0 (read_other n bits b c true is r.0 ne ∙ r.1)
      ];
      only = λ c q. elim (decide_same c b) [
        | inl e ↦ inr e
        | inr ne ↦
            let r = from_there n new c q in
            inl (there n bits c r.0 (sym (read_other n bits b c true is r.0 ne) ∙ r.1))
      ];
      ordered = blocks_ordered n new;
    }

pub removes : (n : ℕ) (bits : List (List Bool)) (b : Block) → AreBlockBits n bits → Contains (blocks_of n bits) b
    → RemovesBlock (blocks_of n bits) b (blocks_of n (with_bit bits b.order (number_of b) false))
removes n bits b h c =
    let is = (from_there n bits b c).0 in
    let new = with_bit bits b.order (number_of b) false in
    record {
      gone = λ q. false≢true (sym (read_same n bits b false h is) ∙ (from_there n new b q).1);
      keeps = λ x q ne. let r = from_there n bits x q in there n new x r.0 (read_other n bits b x false is r.0 ne ∙ r.1);
      only = λ x q. elim (decide_same x b) [
        | inl e ↦ subst (Contains (blocks_of n bits)) (sym e) c
        | inr ne ↦
            let r = from_there n new x q in
            there n bits x r.0 (sym (read_other n bits b x false is r.0 ne) ∙ r.1)
      ];
      ordered = blocks_ordered n new;
    }

pub apart_inserted : (old new : List Block) (b : Block) → AreApart old → (Overlaps old b → ⊥) → Inserts old b new → AreApart new
apart_inserted old new b apart alone h x y qx qy f cx cy =
    elim (h.only x qx) [
      | inl ox ↦ elim (h.only y qy) [
        | inl oy ↦ apart x y ox oy f cx cy
        | inr ny ↦ absurd (alone (x, ox, (f, cx, subst (λ z. Covers z f) ny cy)))
      ]
      | inr nx ↦ elim (h.only y qy) [
        | inl oy ↦ absurd (alone (y, oy, (f, cy, subst (λ z. Covers z f) nx cx)))
        | inr ny ↦ nx ∙ sym ny
      ]
    ]

pub apart_removed : (old new : List Block) (b : Block) → AreApart old → RemovesBlock old b new → AreApart new
apart_removed old new b apart h x y qx qy f cx cy = apart x y (h.only x qx) (h.only y qy) f cx cy

-- ---- a block less: the list is shorter

pub fewer : (old new : List Block) (b : Block) → AllPairs Precedes old → Contains old b → RemovesBlock old b new → length new < length old
fewer old new b ordered (p, l, e) h =
    let cut = remove old p in
    let same : new ≡ cut = same_from_members Precedes precedes_strict precedes_one_way new cut h.ordered (all_pairs_remove Precedes old p l ordered)
    (λ x q. contains_remove_keeps old p b x l e (h.only x q) (λ s. h.gone (subst (Contains new) s q)))
    (λ x q. h.keeps x (contains_remove_old old p x l q)
    (λ s. contains_remove_gone Precedes old p b precedes_strict ordered l e (subst (Contains cut) s q))) in
    let size : List Block → ℕ = λ xs. length xs in
    omega (arith, ap size same, length-remove old p l)

-- ---- a range of frames

pub number_back : (i k : ℕ) → i * 2 ^ k / 2 ^ k ≡ i
number_back i k = let z : i * 2 ^ k + 0 ≡ i * 2 ^ k = omega arith in rw z at (div-mul-add i (2 ^ k) 0 (pow_pos k))

pub overlaps_from : (n : ℕ) (bits : List (List Bool)) (k : ℕ) → AreBlockBits n bits → k < 11 → (b : Block) (end : ℕ) → end ≡ b.at + 2 ^ b.order
    → MeetsRange (get_or bits k []) k b.at end → Overlaps (blocks_of n bits) b
overlaps_from n bits k h l b end e (i, is, below, above) =
    let size = h.each k l in
    let within : i < n / 2 ^ k = elim (cases_lt i (n / 2 ^ k)) [
      | inl q ↦ q
      | inr past ↦ absurd (false≢true (sym (get_or_past (get_or bits k []) i false (omega (arith, size))) ∙ is))
    ] in
    let c : Block = record { at = i * 2 ^ k; order = k } in
    let block : IsBlock n c = numbered_is_block n k i l within in
    let o = block.order in
    let pc = pow_pos k in
    let pb = pow_pos b.order in
    let number : i * 2 ^ k / 2 ^ k ≡ i = number_back i k in
    let read : ℕ → Bool = λ j. get_or (get_or bits k []) j false in (
      c,
      there n bits c block (ap read number ∙ is),
      elim (cases_lt (i * 2 ^ k) b.at) [
        | inl lt ↦ (b.at, record { from = omega arith; before = above }, record { from = omega arith; before = omega arith })
        | inr ge ↦ (i * 2 ^ k, record { from = omega arith; before = omega arith }, record { from = ge; before = omega arith })
      ],
    )

pub overlaps_none : (n : ℕ) (bits : List (List Bool)) (b : Block) (end : ℕ) → end ≡ b.at + 2 ^ b.order
    → ((k : ℕ) → k < 11 → MeetsRange (get_or bits k []) k b.at end → ⊥) → Overlaps (blocks_of n bits) b → ⊥
overlaps_none n bits b end e none (c, q, (f, p, r)) =
    let s = from_there n bits c q in
    let o = s.0.order in
    let w = (number_within n c s.0).1 in
    let pf = p.from in
    let pb = p.before in
    let rf = r.from in
    let rb = r.before in
    none c.order (omega (arith, o)) (number_of c, s.1, omega (arith, w, pf, rb, e), omega (arith, w, pb, rf))
