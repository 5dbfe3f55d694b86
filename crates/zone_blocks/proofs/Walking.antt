-- The rest of a walk, told by the block that comes next: for `Walk`.
use Rattle.std.proofs.Common.{◌≡◌, zero, suc, ◌⊎◌, Bool, true, false, List, [], ◌∷◌, ◌||◌, Option, Some, None, get_or, nat_lt, nat_eq}
use Rattle.std.proofs.Common.{nat_le, refl, sym, ◌∙◌, subst, inl, inr, arith, eq-eqb}
use Rattle.std.specs.List.{AllPairs, Contains}
use Rattle.std.specs.Option.{MatchOption}
use Rattle.std.proofs.lemmas.List.Kept.{AllPairs-filter}
use Rattle.std.proofs.lemmas.List.Elements.{Contains-get_or}
use Rattle.std.proofs.lemmas.Bool.{cases_eq, ltb-true, lt-ltb, leb-true, le-leb, eqb-true, and_from, and_parts, or_left}
use Rattle.zone_blocks.specs.declared.block.Block.{Block}
use Rattle.zone_blocks.specs.Areas.{Precedes, HasNoneFrom, IsSmallestFrom}
use Rattle.zone_blocks.specs.OrderLists.{blocks_from, is_from, IsNextAfter, HasNoneAfter}
use Rattle.zone_blocks.proofs.Lists.{contains_filter, contains_from_filter}
use Rattle.zone_blocks.proofs.OrderLists.{none_in}
use Rattle.zone_blocks.proofs.Filling.{same_block}
use Rattle.zone_blocks.proofs.Unique.{same_from_members, precedes_strict, precedes_one_way}

or_right : (x y : Bool) → y ≡ true → (x || y) ≡ true
or_right true y e = refl
or_right false y e = e

or_parts : (x y : Bool) → (x || y) ≡ true → (x ≡ true) ⊎ (y ≡ true)
or_parts true y e = inl refl
or_parts false y e = inr e

-- c is b or comes after it
from_is : (b c : Block) → (b ≡ c) ⊎ Precedes b c → is_from b c ≡ true
from_is b c (inl e) = let P : Block → Type 0 = λ z. is_from b z ≡ true in
    subst P e (or_right (nat_lt b.order b.order) _ (and_from _ _ (eq-eqb b.order b.order refl) (le-leb b.at b.at (omega arith))))
from_is b c (inr (inl lower)) = or_left _ _ (lt-ltb b.order c.order lower)
from_is b c (inr (inr same)) =
    let l = same.1 in
    or_right (nat_lt b.order c.order) _ (and_from _ _ (eq-eqb b.order c.order same.0) (le-leb b.at c.at (omega arith)))

is_of : (b c : Block) → is_from b c ≡ true → (b ≡ c) ⊎ Precedes b c
is_of b c t =
    elim (or_parts (nat_lt b.order c.order) _ t) [
      | inl l ↦ inr (inl (ltb-true b.order c.order l))
      | inr r ↦
          let p = and_parts (nat_eq b.order c.order) (nat_le b.at c.at) r in
          let o = eqb-true b.order c.order p.0 in
          let le = leb-true b.at c.at p.1 in
          elim (cases_eq b.at c.at) [
            | inl e ↦ inl (same_block b c e o)
            | inr ne ↦ inr (inr (o, omega arith))
          ]
    ]

ordered_from : (blocks : List Block) → AllPairs Precedes blocks → (r : Option Block) → AllPairs Precedes (blocks_from blocks r)
unfolding blocks_from
ordered_from blocks h None = λ i j d l m. absurd (omega arith)
ordered_from blocks h (Some b) = AllPairs-filter Precedes (is_from b) blocks h

in_from : (blocks : List Block) (b c : Block) → Contains blocks c → (b ≡ c) ⊎ Precedes b c → Contains (blocks_from blocks (Some b)) c
unfolding blocks_from
in_from blocks b c q p = contains_filter (is_from b) blocks c q (from_is b c p)

from_in : (blocks : List Block) (b c : Block) → Contains (blocks_from blocks (Some b)) c → Contains blocks c × ((b ≡ c) ⊎ Precedes b c)
unfolding blocks_from
from_in blocks b c q = let r = contains_from_filter (is_from b) blocks c q in (r.0, is_of b c r.1)

pub from_none : (blocks : List Block) → blocks_from blocks None ≡ []
unfolding blocks_from
from_none blocks = refl

-- from the smallest on, all blocks are left
pub from_start : (blocks : List Block) (r : Option Block) → AllPairs Precedes blocks
    → MatchOption r (HasNoneFrom blocks 0) (IsSmallestFrom blocks 0) → blocks_from blocks r ≡ blocks
from_start blocks None h none = from_none blocks ∙ sym (none_in blocks (λ b q. let l = none b q in absurd (omega arith)))
from_start blocks (Some b) h s =
    same_from_members Precedes precedes_strict precedes_one_way (blocks_from blocks (Some b)) blocks (ordered_from blocks h (Some b)) h
    (λ c q. (from_in blocks b c q).0)
    (λ c q. in_from blocks b c q (
    let lo = s.least_order c q (omega arith) in
    elim (cases_eq c.order b.order) [
      | inr ne ↦ inr (inl (omega arith))
      | inl o ↦
          let la = s.least_address c q o in
          elim (cases_eq b.at c.at) [
            | inl e ↦ inl (same_block b c e (sym o))
            | inr ne ↦ inr (inr (sym o, omega arith))
          ]
    ]))

cons_ordered : (b : Block) (xs : List Block) → AllPairs Precedes xs → ((c : Block) → Contains xs c → Precedes b c) → AllPairs Precedes (b ∷ xs)
cons_ordered b xs h all zero zero d l m = absurd (omega arith)
cons_ordered b xs h all zero (suc j) d l m = all (get_or xs j d) (Contains-get_or xs j d (omega arith))
cons_ordered b xs h all (suc i) zero d l m = absurd (omega arith)
cons_ordered b xs h all (suc i) (suc j) d l m = h i j d (omega arith) (omega arith)

in_tail : (b c : Block) (xs : List Block) → Contains xs c → Contains (b ∷ xs) c
in_tail b c xs (k, l, e) = (suc k, omega arith, e)

from_cons : (b c : Block) (xs : List Block) → Contains (b ∷ xs) c → (b ≡ c) ⊎ Contains xs c
from_cons b c xs (zero, l, e) = inl e
from_cons b c xs (suc k, l, e) = inr (k, omega arith, e)

then_later : (a b c : Block) → Precedes a b → (b ≡ c) ⊎ Precedes b c → Precedes a c
then_later a b c p (inl e) = subst (Precedes a) e p
then_later a b c (inl p) (inr (inl q)) = inl (omega arith)
then_later a b c (inl p) (inr (inr q)) = let o = q.0 in inl (omega arith)
then_later a b c (inr p) (inr (inl q)) = let o = p.0 in inl (omega arith)
then_later a b c (inr p) (inr (inr q)) = let u = p.1 in let v = q.1 in inr (p.0 ∙ q.0, omega arith)

-- what comes after a block is what is left from the next one on
members : (blocks : List Block) (b : Block) (r : Option Block) → MatchOption r (HasNoneAfter blocks b) (IsNextAfter blocks b) → (c : Block)
    → (Contains (blocks_from blocks r) c → Contains blocks c × Precedes b c) × (Contains blocks c → Precedes b c → Contains (blocks_from blocks r) c)
members blocks b None none c = (
  λ q. let P : List Block → Type 0 = λ xs. Contains xs c in let e = subst P (from_none blocks) q in let l = e.1 in absurd (omega arith),
  λ q p. absurd (none c q p),
)
members blocks b (Some d) h c = (
  λ q. let r = from_in blocks d c q in (r.0, then_later b d c h.later r.1),
  λ q p. in_from blocks d c q (elim (h.least c q p) [ inl e ↦ inl (sym e) | inr later ↦ inr later ]),
)

pub from_step : (blocks : List Block) (b : Block) (r : Option Block) → AllPairs Precedes blocks → Contains blocks b
    → MatchOption r (HasNoneAfter blocks b) (IsNextAfter blocks b)
    → blocks_from blocks (Some b) ≡ b ∷ blocks_from blocks r
from_step blocks b r h there next =
    let rest = blocks_from blocks r in
    same_from_members Precedes precedes_strict precedes_one_way (blocks_from blocks (Some b)) (b ∷ rest) (ordered_from blocks h (Some b))
    (cons_ordered b rest (ordered_from blocks h r) (λ c q. ((members blocks b r next c).0 q).1))
    (λ c q. let s = from_in blocks b c q in
    elim s.1 [
      | inl e ↦ (zero, omega arith, e)
      | inr later ↦ in_tail b c rest ((members blocks b r next c).1 s.0 later)
    ])
    (λ c q. elim (from_cons b c rest q) [
      | inl e ↦ in_from blocks b c (subst (Contains blocks) e there) (inl e)
      | inr q' ↦ let s = (members blocks b r next c).0 q' in in_from blocks b c s.0 (inr s.1)
    ])
