-- The rings of all orders, when a block is linked in after the node before it, or unlinked: for `insert`, `remove`, `first` and `after`.
use Rattle.std.proofs.Common.{◌≡◌, ◌≢◌, ℕ, ◌<◌, ◌≤◌, ◌⊎◌, List, length, sym, ap, ◌∙◌, subst, inl, inr, arith}
use Rattle.std.specs.List.{Contains}
use Rattle.std.proofs.lemmas.Bool.{cases_lt, cases_eq}
use Rattle.std.proofs.lemmas.Nat.{pow_pos}
use Rattle.zone_blocks.specs.declared.block.Block.{Block}
use Rattle.zone_blocks.specs.declared.links.Link.{Link}
use Rattle.zone_blocks.specs.{IsBlock, Inserts, RemovesBlock, Overlaps, next_of, prev_of, Joins, AreApart, IsStart, IsNode, ComesAfter, IsLastBefore}
use Rattle.zone_blocks.specs.{Follows, AreRings}
use Rattle.zone_blocks.proofs.Nested.{covers_start}

-- what is known of the blocks: they lie in the zone, and no two share a frame
pub record AreInZone (n : ℕ) (blocks : List Block) : Type 0 where
  pub each : (b : Block) → Contains blocks b → IsBlock n b
  pub apart : AreApart blocks

abbrev start_block : ℕ → ℕ → Block
start_block k x = record { at = x; order = k }

start_inside : (n : ℕ) (blocks : List Block) → AreInZone n blocks → (k x : ℕ) → IsStart blocks k x → x < n
start_inside n blocks h k x s = let i = (h.each (start_block k x) s).inside in omega (arith, i, pow_pos k)

comes_later : (n k a x z : ℕ) → ComesAfter n k a x → x ≤ z → ComesAfter n k a z
comes_later n k a x z (inl h) le = inl h
comes_later n k a x z (inr h) le = inr (omega arith)

-- a node belongs to one order alone
nodes_apart : (n : ℕ) (blocks : List Block) → AreInZone n blocks → (k j x : ℕ) → IsNode n blocks k x → IsNode n blocks j x → k ≡ j
nodes_apart n blocks h k j x (inl p) (inl q) =
    let same = h.apart (start_block k x) (start_block j x) p q x (covers_start (start_block k x)) (covers_start (start_block j x)) in
    let order : Block → ℕ = λ z. z.order in
    ap order same
nodes_apart n blocks h k j x (inl p) (inr q) = let l = start_inside n blocks h k x p in absurd (omega arith)
nodes_apart n blocks h k j x (inr p) (inl q) = let l = start_inside n blocks h j x q in absurd (omega arith)
nodes_apart n blocks h k j x (inr p) (inr q) = omega arith

-- one node at most comes after a
pub one_behind : (n : ℕ) (blocks : List Block) → AreInZone n blocks → (k a b c : ℕ) → Follows n blocks k a b → Follows n blocks k a c → b ≡ c
one_behind n blocks h k a b c p q =
    let pb = p.last.before in
    let qb = q.last.before in
    elim p.node [
      | inl sb ↦
          let l1 = q.last.none_between b sb pb in
          let ib = start_inside n blocks h k b sb in
          elim q.node [
            | inl sc ↦ let l2 = p.last.none_between c sc qb in omega arith
            | inr hc ↦ absurd (omega arith)
          ]
      | inr hb ↦ elim q.node [
        | inl sc ↦
            let l2 = p.last.none_between c sc qb in
            let ic = start_inside n blocks h k c sc in
            absurd (omega arith)
        | inr hc ↦ omega arith
      ]
    ]

after_start : (n k a x : ℕ) → a < n → ComesAfter n k a x → a < x
after_start n k a x l (inl h) = absurd (omega arith)
after_start n k a x l (inr h) = h

-- and one at most before x
pub one_before : (n : ℕ) (blocks : List Block) → AreInZone n blocks → (k x a b : ℕ) → IsLastBefore n blocks k a x → IsLastBefore n blocks k b x → a ≡ b
one_before n blocks h k x a b p q =
    elim p.node [
      | inl sa ↦
          let ia = start_inside n blocks h k a sa in
          let la = after_start n k a x ia p.before in
          elim q.node [
            | inl sb ↦
                let ib = start_inside n blocks h k b sb in
                let lb = after_start n k b x ib q.before in
                elim (cases_lt a b) [
                  | inl lt ↦ let r = p.none_between b sb (inr lt) in absurd (omega arith)
                  | inr ge ↦ elim (cases_lt b a) [
                    | inl lt ↦ let r = q.none_between a sa (inr lt) in absurd (omega arith)
                    | inr ge2 ↦ omega arith
                  ]
                ]
            | inr hb ↦ let r = q.none_between a sa (inl hb) in absurd (omega arith)
          ]
      | inr ha ↦ elim q.node [
        | inl sb ↦
            let ib = start_inside n blocks h k b sb in
            let lb = after_start n k b x ib q.before in
            let r = p.none_between b sb (inl ha) in
            absurd (omega arith)
        | inr hb ↦ omega arith
      ]
    ]

-- a ring stays where the blocks of its order stay
last_kept : (n : ℕ) (old new : List Block) (k a x : ℕ) → (IsStart old k a → IsStart new k a)
    → ((z : ℕ) → IsStart new k z → ComesAfter n k a z → IsStart old k z)
    → IsLastBefore n old k a x → IsLastBefore n new k a x
last_kept n old new k a x to from h = record {
  node = elim h.node [ inl s ↦ inl (to s) | inr e ↦ inr e ];
  before = h.before;
  none_between = λ z s l. h.none_between z (from z s l) l;
}

ring_kept : (n : ℕ) (old new : List Block) (k : ℕ) → ((z : ℕ) → IsStart old k z → IsStart new k z) → ((z : ℕ) → IsStart new k z → IsStart old k z)
    → (a b : ℕ) → Follows n old k a b → Follows n new k a b
ring_kept n old new k to from a b h = record {
  node = elim h.node [ inl s ↦ inl (to b s) | inr e ↦ inr e ];
  last = last_kept n old new k a b (to a) (λ z s l. from z s) h.last;
}

-- what two joins make of the records: a, x and b stand one after the other
pub record LinksIn (old new : List Link) (a x b : ℕ) : Type 0 where
  pub count : length new ≡ length old
  pub next_a : next_of new a ≡ x
  pub next_x : next_of new x ≡ b
  pub prev_x : prev_of new x ≡ a
  pub prev_b : prev_of new b ≡ x
  pub others_on : (y : ℕ) → y ≢ a → y ≢ x → next_of new y ≡ next_of old y
  pub others_back : (y : ℕ) → y ≢ x → y ≢ b → prev_of new y ≡ prev_of old y

pub links_in : (old mid new : List Link) (a x b : ℕ) → a ≢ x → b ≢ x → Joins old a x mid → Joins mid x b new → LinksIn old new a x b
links_in old mid new a x b na nb p q = record {
  count = q.count ∙ p.count;
  next_a = q.others_on a na ∙ p.on;
  next_x = q.on;
  prev_x = q.others_back x (λ e. nb (sym e)) ∙ p.back;
  prev_b = q.back;
  others_on = λ y ya yx. q.others_on y yx ∙ p.others_on y ya;
  others_back = λ y yx yb. q.others_back y yb ∙ p.others_back y yx;
}

-- ---- a block put in

-- the blocks before and after, b the one put in, a the node before it
pub record PutsIn (n : ℕ) (old new : List Block) (b : Block) (a : ℕ) : Type 0 where
  pub zone : AreInZone n old
  pub block : IsBlock n b
  pub alone : Overlaps old b → ⊥
  pub change : Inserts old b new
  pub last : IsLastBefore n old b.order a b.at

-- no block of any order begins where b does
not_there : (n : ℕ) (old new : List Block) (b : Block) (a : ℕ) → PutsIn n old new b a → (k : ℕ) → IsStart old k b.at → ⊥
not_there n old new b a h k s = h.alone (start_block k b.at, s, (b.at, covers_start (start_block k b.at), covers_start b))

inside_put : (n : ℕ) (old new : List Block) (b : Block) (a : ℕ) → PutsIn n old new b a → b.at < n
inside_put n old new b a h = let i = h.block.inside in omega (arith, i, pow_pos b.order)

-- a start of the new blocks is an old one or b's
start_cases : (n : ℕ) (old new : List Block) (b : Block) (a : ℕ) → PutsIn n old new b a → (k z : ℕ) → IsStart new k z
    → IsStart old k z ⊎ ((k ≡ b.order) × (z ≡ b.at))
start_cases n old new b a h k z s =
    let at : Block → ℕ = λ c. c.at in
    let order : Block → ℕ = λ c. c.order in
    elim (h.change.only (start_block k z) s) [
      | inl o ↦ inl o
      | inr e ↦ inr (ap order e, ap at e)
    ]

node_new : (n : ℕ) (old new : List Block) (b : Block) (a : ℕ) → PutsIn n old new b a → (k y : ℕ) → IsNode n old k y → IsNode n new k y
node_new n old new b a h k y (inl s) = inl (h.change.keeps (start_block k y) s)
node_new n old new b a h k y (inr e) = inr e

before_block : (n : ℕ) (old new : List Block) (b : Block) (a : ℕ) → PutsIn n old new b a → a ≢ b.at
before_block n old new b a h e =
    let l = inside_put n old new b a h in
    elim h.last.node [
      | inl s ↦ not_there n old new b a h b.order (subst (IsStart old b.order) e s)
      | inr q ↦ absurd (omega arith)
    ]

node_other : (n : ℕ) (old new : List Block) (b : Block) (a y k : ℕ) → PutsIn n old new b a → IsNode n old k y → y ≢ b.at
node_other n old new b a y k h (inl s) e = not_there n old new b a h k (subst (IsStart old k) e s)
node_other n old new b a y k h (inr q) e = let l = inside_put n old new b a h in absurd (omega arith)

-- a b' that comes after a before the block is put in comes after the block afterwards
behind_block : (n : ℕ) (old new : List Block) (b : Block) (a y : ℕ) → PutsIn n old new b a → Follows n old b.order a y → Follows n new b.order b.at y
behind_block n old new b a y h f =
    let l = inside_put n old new b a h in
    record {
      node = node_new n old new b a h b.order y f.node;
      last = record {
        node = inl h.change.there;
        before = elim f.node [
          | inl s ↦
              let le = h.last.none_between y s f.last.before in
              let ne = node_other n old new b a y b.order h f.node in
              inr (omega arith)
          | inr e ↦ inr (omega arith)
        ];
        none_between = λ z s after. elim (start_cases n old new b a h b.order z s) [
          | inl o ↦ let lt = after_start n b.order b.at z l after in f.last.none_between z o (comes_later n b.order a b.at z h.last.before (omega arith))
          | inr e ↦ let lt = after_start n b.order b.at z l after in absurd (omega (arith, e.1))
        ];
      };
    }

before_put : (n : ℕ) (old new : List Block) (b : Block) (a : ℕ) → PutsIn n old new b a → Follows n new b.order a b.at
before_put n old new b a h = record {
  node = inl h.change.there;
  last = record {
    node = node_new n old new b a h b.order a h.last.node;
    before = h.last.before;
    none_between = λ z s after. elim (start_cases n old new b a h b.order z s) [
      | inl o ↦ h.last.none_between z o after
      | inr e ↦ omega (arith, e.1)
    ];
  };
}

-- the other neighbours of the ring stay: b begins not between them
between_no : (n : ℕ) (old new : List Block) (b : Block) (a : ℕ) → PutsIn n old new b a → (y c : ℕ)
    → Follows n old b.order y c → (ComesAfter n b.order y b.at → c ≤ b.at)
    → Follows n new b.order y c
between_no n old new b a h y c f out = record {
  node = node_new n old new b a h b.order c f.node;
  last = record {
    node = node_new n old new b a h b.order y f.last.node;
    before = f.last.before;
    none_between = λ z s after. elim (start_cases n old new b a h b.order z s) [
      | inl o ↦ f.last.none_between z o after
      | inr e ↦
          let r = out (rw e.1 at after) in
          omega (arith, e.1, r)
    ];
  };
}

-- after a node other than a stands one that is not beyond b
not_beyond : (n : ℕ) (old new : List Block) (b : Block) (a : ℕ) → PutsIn n old new b a → (y c : ℕ) → y ≢ a
    → Follows n old b.order y c → ComesAfter n b.order y b.at → c ≤ b.at
not_beyond n old new b a h y c ne f after =
    elim h.last.node [
      | inr ha ↦ elim f.last.node [
        | inl sy ↦
            let iy = start_inside n old h.zone b.order y sy in
            let ly = after_start n b.order y b.at iy after in
            let r = h.last.none_between y sy (inl ha) in
            absurd (omega arith)
        | inr hy ↦ absurd (ne (hy ∙ sym ha))
      ]
      | inl sa ↦
          let ia = start_inside n old h.zone b.order a sa in
          let la = after_start n b.order a b.at ia h.last.before in
          elim f.last.node [
            | inr hy ↦ let r = f.last.none_between a sa (inl hy) in omega arith
            | inl sy ↦
                let iy = start_inside n old h.zone b.order y sy in
                let ly = after_start n b.order y b.at iy after in
                elim (cases_lt a y) [
                  | inl lt ↦ let r = h.last.none_between y sy (inr lt) in absurd (omega arith)
                  | inr ge ↦ let r = f.last.none_between a sa (inr (omega arith)) in omega arith
                ]
          ]
    ]

-- before a node other than the one after a stands one between which and it b does not begin
not_between : (n : ℕ) (old new : List Block) (b : Block) (a after : ℕ) → PutsIn n old new b a → Follows n old b.order a after
    → (p y : ℕ) → y ≢ after → Follows n old b.order p y → ComesAfter n b.order p b.at → y ≤ b.at
not_between n old new b a after h fa p y ne f comes =
    elim (cases_lt b.at y) [
      | inr ge ↦ omega arith
      | inl lt ↦
          let last : IsLastBefore n old b.order p b.at = record {
            node = f.last.node;
            before = comes;
            none_between = λ z s l. let r = f.last.none_between z s l in omega arith;
          } in
          let same : p ≡ a = one_before n old h.zone b.order b.at p a last h.last in
          let F : ℕ → Type 0 = λ q. Follows n old b.order q y in
          absurd (ne (one_behind n old h.zone b.order a y after (subst F same f) fa))
    ]

other_order : (n : ℕ) (old new : List Block) (b : Block) (a k : ℕ) → PutsIn n old new b a → k ≢ b.order → (x y : ℕ) → Follows n old k x y → Follows n new k x y
other_order n old new b a k h ne x y f =
    ring_kept n old new k (λ z s. h.change.keeps (start_block k z) s)
    (λ z s. elim (start_cases n old new b a h k z s) [ inl o ↦ o | inr e ↦ absurd (ne e.0) ]) x y f

node_old : (n : ℕ) (old new : List Block) (b : Block) (a : ℕ) → PutsIn n old new b a → (k y : ℕ)
    → ((k ≡ b.order) × (y ≡ b.at) → ⊥) → IsNode n new k y → IsNode n old k y
node_old n old new b a h k y ne (inl s) = elim (start_cases n old new b a h k y s) [ inl o ↦ inl o | inr e ↦ absurd (ne e) ]
node_old n old new b a h k y ne (inr e) = inr e

-- a node that begins where b does is b's
next_order : (n : ℕ) (old new : List Block) (b : Block) (a : ℕ) → PutsIn n old new b a → (j y : ℕ) → y ≡ b.at → IsNode n new j y → j ≡ b.order
next_order n old new b a h j y e (inl s) =
    elim (start_cases n old new b a h j y s) [
      | inl o ↦ absurd (not_there n old new b a h j (subst (IsStart old j) e o))
      | inr q ↦ q.0
    ]
next_order n old new b a h j y e (inr q) = let l = inside_put n old new b a h in absurd (omega arith)

pub rings_inserted : (n : ℕ) (old new : List Block) (b : Block) (a : ℕ) (links links' : List Link) → PutsIn n old new b a → AreRings n old links
    → LinksIn links links' a b.at (next_of links a) → AreRings n new links'
rings_inserted n old new b a links links' h rings put =
    let k = b.order in
    let o = h.block.order in
    let after = next_of links a in
    let fa : Follows n old k a after = rings.next k a (omega (arith, o)) h.last.node in
    let nx = before_block n old new b a h in
    let nb : after ≢ b.at = node_other n old new b a after k h fa.node in
    record {
      count = put.count ∙ rings.count;
      next = λ j y l node. elim (cases_eq y b.at) [
        | inl e ↦
            let J : j ≡ k = next_order n old new b a h j y e node in
            let F : ℕ → ℕ → Type 0 = λ i z. Follows n new i z (next_of links' z) in
            let G : ℕ → Type 0 = λ i. F i y in
            let H : ℕ → Type 0 = λ z. F k z in
            subst G (sym J) (subst H (sym e) (rw put.next_x (behind_block n old new b a after h fa)))
        | inr ne ↦ elim (cases_eq j k) [
          | inr nj ↦
              let was = node_old n old new b a h j y (λ e. nj e.0) node in
              let na : y ≢ a = λ e. nj (nodes_apart n old h.zone j k a (subst (IsNode n old j) e was) h.last.node) in
              rw (put.others_on y na ne) (other_order n old new b a j h nj y (next_of links y) (rings.next j y l was))
          | inl J ↦
              let was : IsNode n old k y = node_old n old new b a h k y (λ e. ne e.1) (let N : ℕ → Type 0 = λ i. IsNode n new i y in subst N J node) in
              let G : ℕ → Type 0 = λ i. Follows n new i y (next_of links' y) in
              subst G (sym J) (elim (cases_eq y a) [
                | inl e ↦ let H : ℕ → Type 0 = λ z. Follows n new k z (next_of links' z) in subst H (sym e) (rw put.next_a (before_put n old new b a h))
                | inr na ↦
                    let f = rings.next k y (omega (arith, o)) was in
                    rw (put.others_on y na ne) (between_no n old new b a h y (next_of links y) f (not_beyond n old new b a h y (next_of links y) na f))
              ])
        ]
      ];
      prev = λ j y l node. elim (cases_eq y b.at) [
        | inl e ↦
            let J : j ≡ k = next_order n old new b a h j y e node in
            let G : ℕ → Type 0 = λ i. Follows n new i (prev_of links' y) y in
            let H : ℕ → Type 0 = λ z. Follows n new k (prev_of links' z) z in
            subst G (sym J) (subst H (sym e) (rw put.prev_x (before_put n old new b a h)))
        | inr ne ↦ elim (cases_eq j k) [
          | inr nj ↦
              let was = node_old n old new b a h j y (λ e. nj e.0) node in
              let na : y ≢ after = λ e. nj (nodes_apart n old h.zone j k after (subst (IsNode n old j) e was) fa.node) in
              rw (put.others_back y ne na) (other_order n old new b a j h nj (prev_of links y) y (rings.prev j y l was))
          | inl J ↦
              let was : IsNode n old k y = node_old n old new b a h k y (λ e. ne e.1) (let N : ℕ → Type 0 = λ i. IsNode n new i y in subst N J node) in
              let G : ℕ → Type 0 = λ i. Follows n new i (prev_of links' y) y in
              subst G (sym J) (elim (cases_eq y after) [
                | inl e ↦ let H : ℕ → Type 0 = λ z. Follows n new k (prev_of links' z) z in subst H (sym e)
                    (rw put.prev_b (behind_block n old new b a after h fa))
                | inr na ↦
                    let f = rings.prev k y (omega (arith, o)) was in
                    rw (put.others_back y ne na) (between_no n old new b a h (prev_of links y) y f
                    (not_between n old new b a after h fa (prev_of links y) y na f))
              ])
        ]
      ];
    }

pub before_put_block : (n : ℕ) (old new : List Block) (b : Block) (a : ℕ) → PutsIn n old new b a → a ≢ b.at
before_put_block n old new b a h = before_block n old new b a h

pub after_put_block : (n : ℕ) (old new : List Block) (b : Block) (a y : ℕ) → PutsIn n old new b a → Follows n old b.order a y → y ≢ b.at
after_put_block n old new b a y h f = node_other n old new b a y b.order h f.node

-- ---- a block taken out

-- the blocks before and after, b the one taken out
pub record TakesOut (n : ℕ) (old new : List Block) (b : Block) : Type 0 where
  pub zone : AreInZone n old
  pub there : Contains old b
  pub change : RemovesBlock old b new

start_stays : (n : ℕ) (old new : List Block) (b : Block) → TakesOut n old new b → (k z : ℕ)
    → ((k ≡ b.order) × (z ≡ b.at) → ⊥) → IsStart old k z → IsStart new k z
start_stays n old new b h k z ne s =
    let at : Block → ℕ = λ c. c.at in
    let order : Block → ℕ = λ c. c.order in
    h.change.keeps (start_block k z) s (λ e. ne (ap order e, ap at e))

start_was : (n : ℕ) (old new : List Block) (b : Block) → TakesOut n old new b → (k z : ℕ) → IsStart new k z → IsStart old k z
start_was n old new b h k z s = h.change.only (start_block k z) s

start_other : (n : ℕ) (old new : List Block) (b : Block) → TakesOut n old new b → (z : ℕ) → IsStart new b.order z → z ≢ b.at
start_other n old new b h z s e = h.change.gone (subst (IsStart new b.order) e s)

node_was : (n : ℕ) (old new : List Block) (b : Block) → TakesOut n old new b → (k y : ℕ) → IsNode n new k y → IsNode n old k y
node_was n old new b h k y (inl s) = inl (start_was n old new b h k y s)
node_was n old new b h k y (inr e) = inr e

node_stays : (n : ℕ) (old new : List Block) (b : Block) → TakesOut n old new b → (k y : ℕ)
    → ((k ≡ b.order) × (y ≡ b.at) → ⊥) → IsNode n old k y → IsNode n new k y
node_stays n old new b h k y ne (inl s) = inl (start_stays n old new b h k y ne s)
node_stays n old new b h k y ne (inr e) = inr e

-- neighbours other than the block stay neighbours
follows_stays : (n : ℕ) (old new : List Block) (b : Block) → TakesOut n old new b → (k x y : ℕ)
    → ((k ≡ b.order) × (x ≡ b.at) → ⊥) → ((k ≡ b.order) × (y ≡ b.at) → ⊥)
    → Follows n old k x y → Follows n new k x y
follows_stays n old new b h k x y nx ny f = record {
  node = node_stays n old new b h k y ny f.node;
  last = record {
    node = node_stays n old new b h k x nx f.last.node;
    before = f.last.before;
    none_between = λ z s l. f.last.none_between z (start_was n old new b h k z s) l;
  };
}

-- the node before the block, and the one after it, become neighbours
joined : (n : ℕ) (old new : List Block) (b : Block) → TakesOut n old new b → (p q : ℕ) → p ≢ b.at → q ≢ b.at
    → Follows n old b.order p b.at → Follows n old b.order b.at q
    → Follows n new b.order p q
joined n old new b h p q np nq fp fq =
    let inside = start_inside n old h.zone b.order b.at h.there in
    let lq = after_start n b.order b.at q inside fq.last.before in
    record {
      node = node_stays n old new b h b.order q (λ e. nq e.1) fq.node;
      last = record {
        node = node_stays n old new b h b.order p (λ e. np e.1) fp.last.node;
        before = comes_later n b.order p b.at q fp.last.before (omega arith);
        none_between = λ z s l.
            let was = start_was n old new b h b.order z s in
            let other = start_other n old new b h z s in
            let le = fp.last.none_between z was l in
            fq.last.none_between z was (inr (omega arith));
      };
    }

pub not_itself : (n : ℕ) (blocks : List Block) → AreInZone n blocks → (k x y : ℕ) → IsStart blocks k x → Follows n blocks k x y → x ≢ y
not_itself n blocks h k x y s f e = let l = after_start n k x y (start_inside n blocks h k x s) f.last.before in absurd (omega arith)

pub not_itself_before : (n : ℕ) (blocks : List Block) → AreInZone n blocks → (k x y : ℕ) → IsStart blocks k y → Follows n blocks k x y → x ≢ y
not_itself_before n blocks h k x y s f e =
    let i = start_inside n blocks h k y s in
    let l = after_start n k x y (omega arith) f.last.before in
    absurd (omega arith)

-- no node is the block that was taken out
not_block : (n : ℕ) (old new : List Block) (b : Block) → TakesOut n old new b → (j y : ℕ) → IsNode n new j y → (j ≡ b.order) × (y ≡ b.at) → ⊥
not_block n old new b h j y (inl s) e = let G : ℕ → Type 0 = λ i. IsStart new i y in start_other n old new b h y (subst G e.0 s) e.1
not_block n old new b h j y (inr q) e = let l = start_inside n old h.zone b.order b.at h.there in absurd (omega (arith, e.0, e.1))

pub rings_removed : (n : ℕ) (old new : List Block) (b : Block) (links links' : List Link) → TakesOut n old new b → AreRings n old links
    → Joins links (prev_of links b.at) (next_of links b.at) links' → AreRings n new links'
rings_removed n old new b links links' h rings join =
    let k = b.order in
    let o = (h.zone.each b h.there).order in
    let p = prev_of links b.at in
    let q = next_of links b.at in
    let fp : Follows n old k p b.at = rings.prev k b.at (omega (arith, o)) (inl h.there) in
    let fq : Follows n old k b.at q = rings.next k b.at (omega (arith, o)) (inl h.there) in
    let np : p ≢ b.at = not_itself_before n old h.zone k p b.at h.there fp in
    let nq : q ≢ b.at = λ e. not_itself n old h.zone k b.at q h.there fq (sym e) in
    let both = joined n old new b h p q np nq fp fq in
    record {
      count = join.count ∙ rings.count;
      next = λ j y l node.
          let was = node_was n old new b h j y node in
          let ny : (j ≡ k) × (y ≡ b.at) → ⊥ = not_block n old new b h j y node in
          elim (cases_eq y p) [
            | inl e ↦
                let J : j ≡ k = nodes_apart n old h.zone j k p (subst (IsNode n old j) e was) fp.last.node in
                let G : ℕ → Type 0 = λ i. Follows n new i y (next_of links' y) in
                let H : ℕ → Type 0 = λ z. Follows n new k z (next_of links' z) in
                subst G (sym J) (subst H (sym e) (rw join.on both))
            | inr ne ↦
                let f = rings.next j y l was in
                rw (join.others_on y ne) (follows_stays n old new b h j y (next_of links y) ny
                (λ e. let F : ℕ → ℕ → Type 0 = λ i z. Follows n old i y z in
                let f' : Follows n old k y b.at = (let G : ℕ → Type 0 = λ i. F i b.at in let H : ℕ → Type 0 = λ z. F j z in subst G e.0 (subst H e.1 f)) in
                ne (one_before n old h.zone k b.at y p f'.last fp.last)) f)
          ];
      prev = λ j y l node.
          let was = node_was n old new b h j y node in
          let ny : (j ≡ k) × (y ≡ b.at) → ⊥ = not_block n old new b h j y node in
          elim (cases_eq y q) [
            | inl e ↦
                let J : j ≡ k = nodes_apart n old h.zone j k q (subst (IsNode n old j) e was) fq.node in
                let G : ℕ → Type 0 = λ i. Follows n new i (prev_of links' y) y in
                let H : ℕ → Type 0 = λ z. Follows n new k (prev_of links' z) z in
                subst G (sym J) (subst H (sym e) (rw join.back both))
            | inr ne ↦
                let f = rings.prev j y l was in
                rw (join.others_back y ne) (follows_stays n old new b h j (prev_of links y) y
                (λ e. let F : ℕ → ℕ → Type 0 = λ i z. Follows n old i z y in
                let f' : Follows n old k b.at y = (let G : ℕ → Type 0 = λ i. F i b.at in let H : ℕ → Type 0 = λ z. F j z in subst G e.0 (subst H e.1 f)) in
                ne (one_behind n old h.zone k b.at y q f' fq)) ny f)
          ];
    }

-- ---- no blocks
