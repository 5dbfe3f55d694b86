-- The frames of free areas, when a block is put in or taken out: for each call of `Buddy`.
use Rattle.std.proofs.Common.{◌≡◌, ℕ, ◌+◌, ◌^◌, ◌<◌, Bool, true, false, List, length, get_or, leb, ltb, sym, ◌∙◌, subst, inl, inr, arith}
use Rattle.std.specs.List.{Contains, list_any}
use Rattle.std.proofs.lemmas.Bool.{cases_lt, cases_Bool, false≢true, and_parts, and_from, leb-true, ltb-true, le-leb, lt-ltb}
use Rattle.std.proofs.lemmas.List.{get_or_past, same_lists, get_or_default}
use Rattle.std.proofs.lemmas.List.Folds.{Any-from_list_any, list_any-from_Any}
use Rattle.std.proofs.lemmas.List.FromFn.{length-map-range_with_len, get_or-map-range_with_len}
use Rattle.zone_blocks.specs.declared.block.Block.{Block}
use Rattle.zone_blocks.specs.Block.{IsBlock, Covers, enclosing}
use Rattle.zone_blocks.specs.Areas.{IsFree, IsFreeBlock, AreMaximalBlocks, FreeBlocks, Inserts, RemovesBlock, Overlaps}
use Rattle.zone_blocks.proofs.Nested.{same_maximal}
use Rattle.zone_blocks.proofs.Unique.{in_maximal}
use Rattle.zone_blocks.specs.Zone.{free_set_of, covers, TakesFrames, GivesFrames, AreSoundAreas, IsInUse}
use Rattle.zone_blocks.proofs.Sets.{removed_maximal, added_maximal}

pub length-set_of : (a : FreeBlocks) → length (free_set_of a) ≡ a.frames
unfolding free_set_of
length-set_of a = length-map-range_with_len (λ f. list_any (covers f) a.blocks) 0 a.frames

read_set_of : (a : FreeBlocks) (f : ℕ) → f < a.frames → get_or (free_set_of a) f false ≡ list_any (covers f) a.blocks
unfolding free_set_of
read_set_of a f l = get_or-map-range_with_len (λ f. list_any (covers f) a.blocks) 0 a.frames f f false l (omega arith)

covers_from_test : (b : Block) (f : ℕ) → covers f b ≡ true → Covers b f
covers_from_test b f e =
    let r = and_parts (leb b.at f) (ltb f (b.at + 2 ^ b.order)) e in
    record { from = leb-true _ _ r.0; before = ltb-true _ _ r.1 }

test_from_covers : (b : Block) (f : ℕ) → Covers b f → covers f b ≡ true
test_from_covers b f c = and_from _ _ (le-leb _ _ c.from) (lt-ltb _ _ c.before)

-- a free frame lies in a block of the areas
pub in_a_block : (a : FreeBlocks) (f : ℕ) → IsFree (free_set_of a) f → (f < a.frames) × ((b : Block) × Contains a.blocks b × Covers b f)
in_a_block a f is =
    elim (cases_lt f a.frames) [
      | inl l ↦
          let r = Any-from_list_any (covers f) a.blocks (sym (read_set_of a f l) ∙ is) in
          (l, (r.1, (r.0, r.2, r.3), covers_from_test r.1 f r.4))
      | inr past ↦ absurd (false≢true (sym (get_or_past (free_set_of a) f false (omega (arith, length-set_of a))) ∙ is))
    ]

-- and a frame that lies in one is free
pub free_from_block : (a : FreeBlocks) (f : ℕ) (b : Block) → f < a.frames → Contains a.blocks b → Covers b f → IsFree (free_set_of a) f
free_from_block a f b l c cover =
    read_set_of a f l ∙ list_any-from_Any (covers f) a.blocks (c.0, b, c.1, c.2, test_from_covers b f cover)

-- ---- a block taken out

pub takes_frames : (old new : FreeBlocks) (c : Block) → AreMaximalBlocks (free_set_of old) old.blocks → Contains old.blocks c → RemovesBlock old.blocks c new.blocks
    → new.frames ≡ old.frames → TakesFrames (free_set_of old) c (free_set_of new)
takes_frames old new c kept there removes same =
    let hc = kept.each c there in
    record {
      same_length = length-set_of new ∙ same ∙ sym (length-set_of old);
      were_free = hc.is_free.all_free;
      in_use = λ f cover is.
          let r = (in_a_block new f is).1 in
          let b = r.0 in
          let one : b ≡ c = same_maximal (free_set_of old) b c (kept.each b (removes.only b r.1)) hc f r.2 cover in
          removes.gone (subst (Contains new.blocks) one r.1);
      others = λ f out. (
        λ is. let r = in_a_block new f is in
            free_from_block old f r.1.0 (omega (arith, r.0, same)) (removes.only r.1.0 r.1.1) r.1.2,
        λ is. let r = in_a_block old f is in
            free_from_block new f r.1.0 (omega (arith, r.0, same))
            (removes.keeps r.1.0 r.1.1 (λ e. out (subst (λ z. Covers z f) e r.1.2))) r.1.2,
      );
    }

pub kept_less : (old new : FreeBlocks) (c : Block) → AreSoundAreas old → Contains old.blocks c
    → RemovesBlock old.blocks c new.blocks → new.frames ≡ old.frames → AreSoundAreas new
kept_less old new c kept there removes same = record {
  maximal = removed_maximal (free_set_of old) (free_set_of new) old.blocks new.blocks c kept.maximal there removes
      (takes_frames old new c kept.maximal there removes same);
  small = rw same kept.small;
}

-- ---- a block put in

pub gives_frames : (old new : FreeBlocks) (u : Block) → Inserts old.blocks u new.blocks → IsBlock old.frames u
    → ((f : ℕ) → Covers u f → ¬ IsFree (free_set_of old) f) → new.frames ≡ old.frames → GivesFrames (free_set_of old) u (free_set_of new)
gives_frames old new u inserts block in_use same = record {
  same_length = length-set_of old ∙ sym same ∙ sym (length-set_of new);
  were_free = λ f c.
      let before = c.before in
      let inside = block.inside in
      free_from_block new f u (omega arith) inserts.there c;
  in_use = in_use;
  others = λ f out. (
    λ is. let r = in_a_block old f is in
        free_from_block new f r.1.0 (omega (arith, r.0, same)) (inserts.keeps r.1.0 r.1.1) r.1.2,
    λ is. let r = in_a_block new f is in
        elim (inserts.only r.1.0 r.1.1) [
          | inl was ↦ free_from_block old f r.1.0 (omega (arith, r.0, same)) was r.1.2
          | inr e ↦ absurd (out (subst (λ z. Covers z f) e r.1.2))
        ],
  );
}

pub kept_more : (old new : FreeBlocks) (u : Block) → AreSoundAreas old → Inserts old.blocks u new.blocks → IsBlock old.frames u
    → ((f : ℕ) → Covers u f → ¬ IsFree (free_set_of old) f) → new.frames ≡ old.frames → (IsFreeBlock (free_set_of new) (enclosing u) → ⊥) → AreSoundAreas new
kept_more old new u kept inserts block in_use same alone = record {
  maximal = added_maximal (free_set_of old) (free_set_of new) old.blocks new.blocks u kept.maximal inserts
      (gives_frames old new u inserts block in_use same) (rw (length-set_of new, same) block) alone;
  small = rw same kept.small;
}

-- a block in use shares no frame with a free one
pub apart_from_use : (a : FreeBlocks) (u : Block) → AreMaximalBlocks (free_set_of a) a.blocks → ((f : ℕ) → Covers u f → ¬ IsFree (free_set_of a) f)
    → Overlaps a.blocks u → ⊥
apart_from_use a u kept in_use (b, there, (f, p, q)) = in_use f q ((kept.each b there).is_free.all_free f p)

-- ---- the areas of a set

pub set_of_maximal : (free : List Bool) (a : FreeBlocks) → length free ≡ a.frames → AreMaximalBlocks free a.blocks → free_set_of a ≡ free
set_of_maximal free a same h =
    let n = length-set_of a ∙ sym same in
    same_lists (free_set_of a) free n (λ k d l.
    let l' : k < length free = omega (arith, n) in
    let to = get_or_default (free_set_of a) k d false l in
    let back = get_or_default free k d false l' in
    to ∙ elim (cases_Bool (get_or free k false)) [
      | inl is ↦
          let r = in_maximal free k is in
          free_from_block a k r.0 (omega (arith, n, length-set_of a)) (h.all r.0 r.1) r.2 ∙ sym is
      | inr not ↦ elim (cases_Bool (get_or (free_set_of a) k false)) [
        | inl is ↦
            let r = (in_a_block a k is).1 in
            absurd (false≢true (sym not ∙ (h.each r.0 r.1).is_free.all_free k r.2))
        | inr also ↦ also ∙ sym not
      ]
    ] ∙ sym back)

-- a block of the zone is in use exactly where it shares no frame with a block of the areas
pub in_use_apart : (a : FreeBlocks) (b : Block) → IsBlock a.frames b → (Overlaps a.blocks b → ⊥) → IsInUse (free_set_of a) b
in_use_apart a b block apart = record {
  block = rw (length-set_of a) block;
  none_free = λ f c is. let r = (in_a_block a f is).1 in apart (r.0, r.1, (f, r.2, c));
}

pub overlaps_not_in_use : (a : FreeBlocks) (b : Block) → IsInUse (free_set_of a) b → Overlaps a.blocks b → ⊥
overlaps_not_in_use a b h (c, there, (f, p, q)) =
    let before = q.before in
    let inside = h.block.inside in
    h.none_free f q (free_from_block a f c (omega (arith, length-set_of a)) there p)
