-- What the calls of `FreeAreas` make of the bits and the rings together: for their answers.
use Rattle.std.proofs.Common.{◌≡◌, ℕ, ◌+◌, ◌-◌, ◌*◌, ◌/◌, ◌%◌, ◌^◌, ◌<◌, ◌≤◌, ◌↔◌, Bool, true, false, List, [], Option, Some, None, is_some}
use Rattle.std.proofs.Common.{length, get_or, set, refl, sym, ap, ◌∙◌, subst, inl, inr, arith}
use Rattle.std.specs.List.{Contains}
use Rattle.std.specs.Option.{MatchOption}
use Rattle.std.proofs.lemmas.List.{get_or_default, get_or_past}
use Rattle.std.proofs.lemmas.Bool.{cases_lt, cases_eq, false≢true}
use Rattle.std.proofs.lemmas.Nat.{div-add-mod', pow_pos, le-div, mod_below}
use Rattle.std.proofs.Math.Nat.{mul-le-mul_right}
use Rattle.bit_levels.specs.Sets.{IsIn, IsLastIn}
use Rattle.zone_blocks.specs.declared.block.Block.{Block}
use Rattle.zone_blocks.specs.declared.links.Link.{Link}
use Rattle.zone_blocks.specs.{IsBlock, HasNoneOf, HasNoneFrom, IsFirstOf, IsSmallestFrom, Inserts, RemovesBlock, Overlaps, next_of, prev_of, Joins}
use Rattle.zone_blocks.specs.{MeetsRange, blocks_of, has_block_bit, with_bit, AreBlockBits, AreOrderLists, AreRings, IsStart, IsNode, IsLastBefore}
use Rattle.zone_blocks.specs.{Follows, IsNodeBelow, IsNodeBefore, IsNextAfter, HasNoneAfter, head_of}
use Rattle.zone_blocks.proofs.Lists.{number_within, numbered_is_block}
use Rattle.zone_blocks.proofs.OrderLists.{there, from_there, bits_put, number_of, number_back, inserts, removes, apart_inserted, apart_removed}
use Rattle.zone_blocks.proofs.Neighbours.{AreInZone, PutsIn, TakesOut, LinksIn, links_in, rings_inserted, rings_removed, before_put_block, after_put_block}

-- ---- the bits of one order, read before

pub read_bits : (n : ℕ) (bits : List (List Bool)) (k e : ℕ) (old : List Bool) → AreBlockBits n bits → k < 11 → e ≡ k
    → old ≡ get_or bits e old → old ≡ get_or bits k []
read_bits n bits k e old h l same here =
    let count = h.count in
    let K : ℕ → Type 0 = λ j. old ≡ get_or bits j [] in
    subst K same (here ∙ get_or_default bits e old [] (omega (arith, count)))

pub bits_size : (n : ℕ) (bits : List (List Bool)) (k e : ℕ) (old : List Bool) → AreBlockBits n bits → k < 11 → e ≡ k
    → old ≡ get_or bits e old → length old ≡ n / 2 ^ k
bits_size n bits k e old h l same here =
    let size : List Bool → ℕ = λ xs. length xs in
    ap size (read_bits n bits k e old h l same here) ∙ h.each k l

pub bit_within : (n : ℕ) (bits : List (List Bool)) (b : Block) (e : ℕ) (old : List Bool) → AreBlockBits n bits
    → IsBlock n b → e ≡ b.order → old ≡ get_or bits e old
    → b.at / 2 ^ e < length old
bit_within n bits b e old h is same here =
    let o = is.order in
    let size = bits_size n bits b.order e old h (omega arith) same here in
    rw same (omega (arith, size, (number_within n b is).0))

pub bit_tells : (n : ℕ) (bits : List (List Bool)) (b : Block) (e : ℕ) (old : List Bool) → AreBlockBits n bits
    → IsBlock n b → e ≡ b.order → old ≡ get_or bits e old
    → IsIn old (b.at / 2 ^ e) ↔ Contains (blocks_of n bits) b
bit_tells n bits b e old h is same here =
    let o = is.order in
    let whole = read_bits n bits b.order e old h (omega arith) same here in
    let read : List Bool → Bool = λ xs. get_or xs (number_of b) false in
    let E : ℕ → Type 0 = λ j. get_or old (b.at / 2 ^ j) false ≡ has_block_bit bits b in
    let bit : get_or old (b.at / 2 ^ e) false ≡ has_block_bit bits b = subst E (sym same) (ap read whole) in
    ((λ t. there n bits b is (sym bit ∙ t)), (λ c. bit ∙ (from_there n bits b c).1))

pub bits_written : (n : ℕ) (bits : List (List Bool)) (b : Block) (e : ℕ) (old new : List Bool) (v : Bool) → AreBlockBits n bits → IsBlock n b → e ≡ b.order
    → old ≡ get_or bits e old → new ≡ set old (b.at / 2 ^ e) v → set bits e new ≡ with_bit bits b.order (number_of b) v
bits_written n bits b e old new v h is same here put =
    let o = is.order in
    let whole = read_bits n bits b.order e old h (omega arith) same here in
    let E : ℕ → Type 0 = λ j. new ≡ set old (b.at / 2 ^ j) v in
    let write : List Bool → List Bool = λ xs. set xs (number_of b) v in
    let new_is = subst E same put ∙ ap write whole in
    let at : ℕ → List (List Bool) = λ j. set bits j new in
    let with : List Bool → List (List Bool) = λ xs. set bits b.order xs in
    ap at same ∙ ap with new_is

pub in_zone_of : (n : ℕ) (bits : List (List Bool)) (links : List Link) → AreOrderLists n bits links → AreInZone n (blocks_of n bits)
in_zone_of n bits links h = record { each = λ b c. (from_there n bits b c).0; apart = h.apart }

pub node_within : (n : ℕ) (blocks : List Block) (k x : ℕ) → AreInZone n blocks → k < 11 → IsNode n blocks k x → x < n + 11
node_within n blocks k x h l (inl s) = let i = (h.each record { at = x; order = k } s).inside in omega (arith, i, pow_pos k)
node_within n blocks k x h l (inr e) = omega arith

-- ---- a block put in

pub last_before : (n : ℕ) (bits : List (List Bool)) (b : Block) (e node : ℕ) (old : List Bool) → AreBlockBits n bits
    → IsBlock n b → e ≡ b.order → old ≡ get_or bits e old
    → IsNodeBelow n old b.order (b.at / 2 ^ e) node → IsLastBefore n (blocks_of n bits) b.order node b.at
last_before n bits b e node old h is same here found =
    let o = is.order in
    let k = b.order in
    let l : k < 11 = omega arith in
    let whole : old ≡ get_or bits k [] = read_bits n bits k e old h l same here in
    let E : ℕ → Type 0 = λ j. IsNodeBelow n old k (b.at / 2 ^ j) node in
    let W : List Bool → Type 0 = λ xs. IsNodeBelow n xs k (number_of b) node in
    let is_below = subst W whole (subst E same found) in
    let w = number_within n b is in
    let inside = is.inside in
    -- a block that begins before b has a lesser number
    let lower : (z : ℕ) → IsStart (blocks_of n bits) k z → z < b.at → (z / 2 ^ k < number_of b) × (z / 2 ^ k * 2 ^ k ≡ z)
    × IsIn (get_or bits k []) (z / 2 ^ k) = λ z s lt.
    let r = from_there n bits record { at = z; order = k } s in
    let wz = (number_within n record { at = z; order = k } r.0).1 in (
      elim (cases_lt (z / 2 ^ k) (number_of b)) [
        | inl q ↦ q
        | inr ge ↦ let m = mul-le-mul_right {m = number_of b} {n = z / 2 ^ k} (2 ^ k) ge in absurd (omega (arith, m, wz, w.1, lt))
      ],
      wz,
      r.1,
    ) in
    elim is_below [
      | inl none ↦ record {
        node = inr none.1;
        before = inl none.1;
        none_between = λ z s after. elim (cases_lt z b.at) [
          | inl lt ↦ let r = lower z s lt in absurd (none.0 (z / 2 ^ k) (omega arith) r.0 r.2)
          | inr ge ↦ ge
        ];
      }
      | inr some ↦
          let i = some.0 in
          let last = some.1 in
          let at = some.2 in
          let below = last.before in
          let within : i < n / 2 ^ k = omega (arith, below, w.0) in
          let c : Block = record { at = i * 2 ^ k; order = k } in
          let block = numbered_is_block n k i l within in
          let read : ℕ → Bool = λ j. get_or (get_or bits k []) j false in
          let c_there : Contains (blocks_of n bits) c = there n bits c block (ap read (number_back i k) ∙ last.there) in
          let S : ℕ → Type 0 = λ z. IsStart (blocks_of n bits) k z in
          let m = mul-le-mul_right {m = i + 1} {n = number_of b} (2 ^ k) (omega (arith, below)) in
          let pos = pow_pos k in
          let fits = block.inside in
          record {
            node = inl (subst S (sym at) c_there);
            before = inr (omega (arith, at, m, w.1, pos));
            none_between = λ z s after. elim (cases_lt z b.at) [
              | inr ge ↦ ge
              | inl lt ↦
                  let r = lower z s lt in
                  elim after [
                    | inl q ↦ absurd (omega (arith, q, at, fits, pos))
                    | inr q ↦ elim (cases_lt i (z / 2 ^ k)) [
                      | inl more ↦ absurd (last.none_after (z / 2 ^ k) (omega (arith, more)) r.0 r.2)
                      | inr less ↦ let d = mul-le-mul_right {m = z / 2 ^ k} {n = i} (2 ^ k) less in absurd (omega (arith, d, r.1, at, q))
                    ]
                  ]
            ];
          }
    ]

-- a block before the first of its order comes after the head
behind_head : (n : ℕ) (blocks : List Block) (links : List Link) (k at node : ℕ) → AreRings n blocks links → k < 11
    → node ≡ head_of n k → at < next_of links (head_of n k) → IsLastBefore n blocks k node at
behind_head n blocks links k at node rings l is lt =
    let first = (rings.next k (head_of n k) l (inr refl)).last in
    record { node = inr is; before = inl is; none_between = λ z s after. let le = first.none_between z s (inl refl) in omega arith }

pub last_found : (n : ℕ) (bits : List (List Bool)) (links : List Link) (b : Block) (e node : ℕ) (old : List Bool) → AreOrderLists n bits links
    → IsBlock n b → e ≡ b.order → old ≡ get_or bits e old
    → IsNodeBefore n links old b node → IsLastBefore n (blocks_of n bits) b.order node b.at
last_found n bits links b e node old h is same here found =
    let o = is.order in
    elim found [
      | inl head ↦ behind_head n (blocks_of n bits) links b.order b.at node h.rings (omega arith) head.0 head.1
      | inr below ↦
          let E : ℕ → Type 0 = λ j. IsNodeBelow n old b.order (b.at / 2 ^ j) node in
          last_before n bits b e node old h.sizes is same here (subst E (sym same) below)
    ]

pub inserted : (n : ℕ) (bits : List (List Bool)) (links mid links' : List Link) (b : Block) (a after : ℕ) → AreOrderLists n bits links → IsBlock n b
    → (Overlaps (blocks_of n bits) b → ⊥) → IsLastBefore n (blocks_of n bits) b.order a b.at → after ≡ next_of links a
    → Joins links a b.at mid → Joins mid b.at after links'
    → AreOrderLists n (with_bit bits b.order (number_of b) true) links' × Inserts (blocks_of n bits) b (blocks_of n (with_bit bits b.order (number_of b) true))
inserted n bits links mid links' b a after h is alone last read p q =
    let o = is.order in
    let change = inserts n bits b h.sizes is in
    let old = blocks_of n bits in
    let new = blocks_of n (with_bit bits b.order (number_of b) true) in
    let puts : PutsIn n old new b a = record { zone = in_zone_of n bits links h; block = is; alone = alone; change = change; last = last } in
    let next = next_of links a in
    let J : ℕ → Type 0 = λ x. Joins mid b.at x links' in
    let put : LinksIn links links' a b.at next = links_in links mid links' a b.at next (before_put_block n old new b a puts)
    (after_put_block n old new b a next puts (h.rings.next b.order a (omega arith) last.node)) p (subst J read q) in (
      record {
        sizes = bits_put n bits b.order (number_of b) true h.sizes (omega arith);
        apart = apart_inserted old new b h.apart alone change;
        rings = rings_inserted n old new b a links links' puts h.rings put;
      },
      change,
    )

-- ---- a block taken out

pub removed : (n : ℕ) (bits : List (List Bool)) (links links' : List Link) (b : Block) (p q : ℕ) → AreOrderLists n bits links → Contains (blocks_of n bits) b
    → p ≡ prev_of links b.at → q ≡ next_of links b.at → Joins links p q links'
    → AreOrderLists n (with_bit bits b.order (number_of b) false) links'
    × RemovesBlock (blocks_of n bits) b (blocks_of n (with_bit bits b.order (number_of b) false))
removed n bits links links' b p q h c ep eq join =
    let is = (from_there n bits b c).0 in
    let o = is.order in
    let change = removes n bits b h.sizes c in
    let old = blocks_of n bits in
    let new = blocks_of n (with_bit bits b.order (number_of b) false) in
    let takes : TakesOut n old new b = record { zone = in_zone_of n bits links h; there = c; change = change } in
    let J : ℕ → ℕ → Type 0 = λ x y. Joins links x y links' in
    let K : ℕ → Type 0 = λ y. J (prev_of links b.at) y in
    let L : ℕ → Type 0 = λ x. J x q in (
      record {
        sizes = bits_put n bits b.order (number_of b) false h.sizes (omega arith);
        apart = apart_removed old new b h.apart change;
        rings = rings_removed n old new b links links' takes h.rings (subst K eq (subst L ep join));
      },
      change,
    )

-- ---- the first block of an order, and the one after another

block_same : (b : Block) (k x : ℕ) → b.at ≡ x → b.order ≡ k → record { at = x; order = k } ≡ b
block_same b k x e o =
    let at : ℕ → Block = λ y. record { at = y; order = k } in
    let order : ℕ → Block = λ j. record { at = b.at; order = j } in
    sym (ap order o ∙ ap at e)

start_of : (blocks : List Block) (b : Block) (k : ℕ) → Contains blocks b → b.order ≡ k → IsStart blocks k b.at
start_of blocks b k c o = let K : ℕ → Type 0 = λ j. IsStart blocks j b.at in subst K o c

pub first_gives : (n : ℕ) (blocks : List Block) (links : List Link) (k : ℕ) (r : Option Block) → AreInZone n blocks → AreRings n blocks links → k < 11
    → MatchOption r (n ≤ next_of links (n + k)) (λ b. (next_of links (n + k) < n) × (b ≡ record { at = next_of links (n + k); order = k }))
    → MatchOption r (HasNoneOf blocks k) (IsFirstOf blocks k)
first_gives n blocks links k None zone rings l none = λ b c o.
    let f = rings.next k (n + k) l (inr refl) in
    let s = start_of blocks b k c o in
    let le = f.last.none_between b.at s (inl refl) in
    let i = (zone.each b c).inside in
    absurd (omega (arith, le, i, none, pow_pos b.order))
first_gives n blocks links k (Some b) zone rings l is =
    let f = rings.next k (n + k) l (inr refl) in
    let at : Block → ℕ = λ z. z.at in
    let order : Block → ℕ = λ z. z.order in
    let within = is.0 in
    record {
      there = elim f.node [ inl s ↦ subst (Contains blocks) (sym is.1) s | inr e ↦ absurd (omega (arith, e, within)) ];
      order_is = ap order is.1;
      least_address = λ c q o. let le = f.last.none_between c.at (start_of blocks c k q o) (inl refl) in omega (arith, le, ap at is.1);
    }

pub smallest_is : (blocks : List Block) (from k : ℕ) (b : Block) → from ≤ k
    → ((c : Block) → Contains blocks c → from ≤ c.order → c.order < k → ⊥) → IsFirstOf blocks k b
    → IsSmallestFrom blocks from b
smallest_is blocks from k b le none f =
    let o = f.order_is in
    record {
      there = f.there;
      sufficient = omega (arith, o);
      least_order = λ c q enough. elim (cases_lt c.order b.order) [
        | inl lt ↦ absurd (none c q enough (omega (arith, o)))
        | inr ge ↦ ge
      ];
      least_address = λ c q e. f.least_address c q (e ∙ o);
    }

pub none_more : (blocks : List Block) (from k : ℕ) → ((c : Block) → Contains blocks c → from ≤ c.order → c.order < k → ⊥) → HasNoneOf blocks k
    → (c : Block) → Contains blocks c → from ≤ c.order → c.order < k + 1 → ⊥
none_more blocks from k none here c q le lt =
    elim (cases_eq c.order k) [
      | inl e ↦ here c q e
      | inr ne ↦ none c q le (omega arith)
    ]

pub behind_gives : (n : ℕ) (blocks : List Block) (links : List Link) (b : Block) (node : ℕ) (r : Option Block)
    → AreInZone n blocks → AreRings n blocks links → Contains blocks b
    → node ≡ next_of links b.at → MatchOption r (n ≤ node) (λ c. (node < n) × (c ≡ record { at = node; order = b.order }))
    → MatchOption r ((d : Block) → Contains blocks d → d.order ≡ b.order → b.at < d.at → ⊥) (IsNextAfter blocks b)
behind_gives n blocks links b node None zone rings there_b en none = λ d c o lt.
    let F : ℕ → Type 0 = λ x. Follows n blocks b.order b.at x in
    let l = (zone.each b there_b).order in
    let f = subst F (sym en) (rings.next b.order b.at (omega (arith, l)) (inl there_b)) in
    let le = f.last.none_between d.at (start_of blocks d b.order c o) (inr lt) in
    let i = (zone.each d c).inside in
    omega (arith, le, i, none, pow_pos d.order)
behind_gives n blocks links b node (Some c) zone rings there_b en is =
    let F : ℕ → Type 0 = λ x. Follows n blocks b.order b.at x in
    let l = (zone.each b there_b).order in
    let ib = (zone.each b there_b).inside in
    let f = subst F (sym en) (rings.next b.order b.at (omega (arith, l)) (inl there_b)) in
    let at : Block → ℕ = λ z. z.at in
    let order : Block → ℕ = λ z. z.order in
    let within = is.0 in
    let before : b.at < node = elim f.last.before [ inl q ↦ absurd (omega (arith, q, ib, pow_pos b.order)) | inr q ↦ q ] in
    record {
      there = elim f.node [ inl s ↦ subst (Contains blocks) (sym is.1) s | inr e ↦ absurd (omega (arith, e, within)) ];
      later = inr (sym (ap order is.1), omega (arith, before, ap at is.1));
      least = λ d q p. elim p [
        | inl lower ↦ inr (inl (omega (arith, lower, ap order is.1)))
        | inr same ↦
            let le = f.last.none_between d.at (start_of blocks d b.order q (sym same.0)) (inr same.1) in
            elim (cases_eq d.at node) [
              | inl e ↦ inl (sym (block_same d b.order node e (sym same.0)) ∙ sym is.1)
              | inr ne ↦ inr (inr (ap order is.1 ∙ same.0, omega (arith, ne, le, ap at is.1)))
            ]
      ];
    }

-- where no later block of its order is there, the next one is the smallest of the orders above
pub above_gives : (blocks : List Block) (b : Block) (r : Option Block) → ((d : Block) → Contains blocks d → d.order ≡ b.order → b.at < d.at → ⊥)
    → MatchOption r (HasNoneFrom blocks (b.order + 1)) (IsSmallestFrom blocks (b.order + 1)) → MatchOption r (HasNoneAfter blocks b) (IsNextAfter blocks b)
above_gives blocks b None none all = λ d c p.
    let l = all d c in
    elim p [
      | inl lower ↦ omega (arith, l, lower)
      | inr same ↦ none d c (sym same.0) same.1
    ]
above_gives blocks b (Some c) none h =
    let enough = h.sufficient in
    record {
      there = h.there;
      later = inl (omega (arith, enough));
      least = λ d q p. elim p [
        | inr same ↦ absurd (none d q (sym same.0) same.1)
        | inl lower ↦
            let le = h.least_order d q (omega (arith, lower)) in
            elim (cases_eq d.order c.order) [
              | inr ne ↦ inr (inl (omega (arith, le, ne)))
              | inl e ↦
                  let la = h.least_address d q e in
                  elim (cases_eq d.at c.at) [
                    | inl ea ↦ inl (sym (block_same d c.order c.at ea e))
                    | inr na ↦ inr (inr (sym e, omega (arith, la, na)))
                  ]
            ]
      ];
    }

pub some_gives : (P Q : Type 0) (R : Block → Type 0) (r : Option Block) → is_some r ≡ true → MatchOption r P R → MatchOption r Q R
some_gives P Q R None t h = absurd (false≢true t)
some_gives P Q R (Some b) t h = h

pub none_gives : (P : Type 0) (R : Block → Type 0) (r : Option Block) → is_some r ≡ false → MatchOption r P R → P
none_gives P R None t h = h
none_gives P R (Some b) t h = absurd (false≢true (sym t))

-- ---- a range of frames

-- so many blocks of order k begin before the end
abbrev pub begin_before : ℕ → ℕ → ℕ
begin_before k end = (end + 2 ^ k - 1) / 2 ^ k

begins_before : (k end i : ℕ) → i * 2 ^ k < end → i < begin_before k end
begins_before k end i l =
    let pos = pow_pos k in
    let r : i + 1 ≤ begin_before k end = le-div (i + 1) (end + 2 ^ k - 1) (2 ^ k) pos (omega (arith, l, pos)) in
    omega arith

before_end : (k end i : ℕ) → i < begin_before k end → i * 2 ^ k < end
before_end k end i l =
    let pos = pow_pos k in
    let e : begin_before k end * 2 ^ k + (end + 2 ^ k - 1) % 2 ^ k ≡ end + 2 ^ k - 1 = div-add-mod' (end + 2 ^ k - 1) (2 ^ k) in
    let m = mul-le-mul_right {m = i + 1} {n = begin_before k end} (2 ^ k) (omega arith) in
    omega (arith, e, m, pos)

pub range_told : (bits : List Bool) (k at end last high : ℕ) → high ≤ begin_before k end → ((i : ℕ) → i < begin_before k end → i < length bits → i < high)
    → IsLastIn bits 0 high last → (at / 2 ^ k ≤ last → MeetsRange bits k at end) × (MeetsRange bits k at end → at / 2 ^ k ≤ last)
range_told bits k at end last high low up h =
    let pos = pow_pos k in
    let below = h.before in
    let e : at / 2 ^ k * 2 ^ k + at % 2 ^ k ≡ at = div-add-mod' at (2 ^ k) in
    let r = mod_below at (2 ^ k) pos in (
      λ le.
          let m = mul-le-mul_right {m = at / 2 ^ k} {n = last} (2 ^ k) le in
          (last, h.there, before_end k end last (omega (arith, below, low)), omega (arith, e, r, m)),
      λ (i, is, begins, ends). elim (cases_lt last (at / 2 ^ k)) [
        | inr ge ↦ ge
        | inl lt ↦
            let inside : i < length bits = elim (cases_lt i (length bits)) [
              | inl q ↦ q
              | inr past ↦ absurd (false≢true (sym (get_or_past bits i false past) ∙ is))
            ] in
            let under = up i (begins_before k end i begins) inside in
            elim (cases_lt last i) [
              | inl more ↦ absurd (h.none_after i (omega (arith, more)) under is)
              | inr less ↦
                  let a = mul-le-mul_right {m = i} {n = last} (2 ^ k) less in
                  let b = mul-le-mul_right {m = last + 1} {n = at / 2 ^ k} (2 ^ k) (omega arith) in
                  absurd (omega (arith, a, b, ends, e))
            ]
      ],
    )

-- where the range begins in the last block of the order that begins before its end, that block alone can meet it
pub range_in_one : (bits : List Bool) (k at end first : ℕ) → first ≡ at / 2 ^ k → first + 1 ≡ begin_before k end
    → (IsIn bits first → MeetsRange bits k at end) × (MeetsRange bits k at end → IsIn bits first)
range_in_one bits k at end first here stop =
    let pos = pow_pos k in
    let e : at / 2 ^ k * 2 ^ k + at % 2 ^ k ≡ at = div-add-mod' at (2 ^ k) in
    let r = mod_below at (2 ^ k) pos in
    let scale : ℕ → ℕ = λ i. i * 2 ^ k in
    let h : scale first ≡ scale (at / 2 ^ k) = ap scale here in (
      λ is. (first, is, before_end k end first (omega (arith, stop)), omega (arith, e, r, h)),
      λ (i, is, begins, ends).
          let below = begins_before k end i begins in
          elim (cases_lt i first) [
            | inl lt ↦
                let m = mul-le-mul_right {m = i + 1} {n = first} (2 ^ k) (omega arith) in
                absurd (omega (arith, m, ends, e, h))
            | inr ge ↦
                let same : i ≡ first = omega (arith, below, stop, ge) in
                let I : ℕ → Type 0 = λ j. IsIn bits j in
                subst I same is
          ],
    )
