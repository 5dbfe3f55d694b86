-- The records as they are packed, and what a write of one leaves.
-- They serve the contracts of `Links`.
use Rattle.std.proofs.Common.{◌≡◌, ℕ, ◌<◌, false, Option, Some, None, IfSome, List, length, replicate, slice_set, sym, ◌∙◌, ap}
use Rattle.std.proofs.Common.{arith, inl, inr, refl, subst}
use Rattle.std.proofs.Math.ListN.{get_or, get_or-map}
use Rattle.std.proofs.lemmas.Bool.{cases_lt}
use Rattle.std.proofs.lemmas.List.{map-set, get_or-replicate, get_or_past, length-replicate, length-map}
use Rattle.std.proofs.lemmas.Option.{get_or_from_slice_get, slice_get_read}
use Rattle.lru_lists.specs.declared.record.Link.{Link}
use Rattle.lru_lists.specs.declared.packed.Packed.{Packed}
use Rattle.lru_lists.specs.declared.packed.OnList.TheVariants.{Neither}
use Rattle.lru_lists.specs.declared.packed.Flags.TheVariants.{Clean}
use Rattle.lru_lists.specs.{link_at, nowhere, link_of, links_of, IsNumber}

-- the packed record of a frame on no list
abbrev pub packed_nowhere : Packed
packed_nowhere = record { older = 0; newer = 0; owner = 0; list = Neither; flags = Clean }

-- the record of a frame is the one that is packed there
pub at_packed : (ps : List Packed) (i : ℕ) → link_at (links_of ps) i ≡ link_of (get_or ps i packed_nowhere)
at_packed ps i = get_or-map link_of ps i packed_nowhere

pub here : (ps : List Packed) (i : ℕ) (p : Packed) → i < length ps → p ≡ get_or ps i p → link_at (links_of ps) i ≡ link_of p
here ps i p lt e = at_packed ps i ∙ ap link_of (get_or_from_slice_get ps i p packed_nowhere (slice_get_read ps (length ps) i p refl lt e))

-- a frame of the records is one of those that are packed
pub within_packed : (ps : List Packed) (ls : List Link) (i : ℕ) → links_of ps ≡ ls → i < length ls → i < length ps
within_packed ps ls i v lt = rw (← length-map ps link_of, v) lt

-- a record is written
pub written : (ps : List Packed) (ls : List Link) (i : ℕ) (q : Packed) (k : Link) → links_of ps ≡ ls → link_of q ≡ k
    → links_of (slice_set ps i q) ≡ slice_set ls i k
written ps ls i q k v e = map-set link_of ps i q ∙ ap (λ (l : Link). slice_set (links_of ps) i l) e ∙ ap (λ (l : List Link). slice_set l i k) v

-- a part of a record is written
pub changed : (ps : List Packed) (ls : List Link) (i : ℕ) (p q : Packed) (f : Link → Link) → links_of ps ≡ ls → i < length ls → p ≡ get_or ps i p
    → link_of q ≡ f (link_of p) → links_of (slice_set ps i q) ≡ slice_set ls i (f (link_at ls i))
changed ps ls i p q f v lt at e =
    written ps ls i q (f (link_at ls i)) v
    (e ∙ ap f (sym (here ps i p (within_packed ps ls i v lt) at)) ∙ ap (λ (l : List Link). f (link_at l i)) v)

-- new records are of frames on no list
pub none_stand : (n : ℕ) (ps : List Packed) (i : ℕ) → ps ≡ replicate n packed_nowhere → link_at (links_of ps) i ≡ nowhere
none_stand n ps i e = at_packed ps i ∙ ap link_of (ap (λ (l : List Packed). get_or l i packed_nowhere) e ∙ (elim (cases_lt i n) [
  | inl lt ↦ get_or-replicate n i packed_nowhere packed_nowhere lt
  | inr le ↦ get_or_past (replicate n packed_nowhere) i packed_nowhere (rw (length-replicate n packed_nowhere) le)
]))

-- there are as many records as are packed
pub as_many : (ps : List Packed) (ls : List Link) (n : ℕ) → links_of ps ≡ ls → length ps < n → length ls < n
as_many ps ls n v lt = rw (← v, length-map ps link_of) lt

-- each of fewer than 2^32 frames has a number
pub numbered : (n : ℕ) (unit : Option ℕ) → n < 4294967296 → IfSome unit (λ u. u < n) → IsNumber unit
numbered n None lt h = tt
numbered n (Some u) lt h = omega (arith, lt, h)

-- a unit that is given is a frame
pub the_unit : (unit : Option ℕ) (u n : ℕ) → unit ≡ Some u → IfSome unit (λ v. v < n) → u < n
the_unit unit u n e h = subst (λ (o : Option ℕ). IfSome o (λ v. v < n)) e h
