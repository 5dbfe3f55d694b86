-- Sets of free frames that differ by one block, and their maximal free blocks: for `take` and `give`.
use Rattle.std.proofs.Common.{◌≡◌, ℕ, ◌+◌, ◌^◌, ◌⊎◌, Bool, List, length, sym, subst, inl, inr, arith}
use Rattle.std.specs.List.{Contains}
use Rattle.std.proofs.lemmas.Bool.{cases_lt}
use Rattle.std.proofs.lemmas.Nat.{pow_pos}
use Rattle.zone_blocks.specs.declared.block.Block.{Block}
use Rattle.zone_blocks.specs.{IsBlock, Covers, enclosing, IsFree, IsFreeBlock, IsMaximalBlock, AreMaximalBlocks, Inserts, RemovesBlock, TakesFrames}
use Rattle.zone_blocks.proofs.Nested.{same_maximal, inside_maximal, enclosing_covers, covers_start}
use Rattle.zone_blocks.proofs.Unique.{in_maximal}

pub decide_covers : (b : Block) (f : ℕ) → Covers b f ⊎ (Covers b f → ⊥)
decide_covers b f =
    elim (cases_lt f b.at) [
      | inl below ↦ inr (λ c. let from = c.from in absurd (omega arith))
      | inr from ↦ elim (cases_lt f (b.at + 2 ^ b.order)) [
        | inl before ↦ inl record { from = from; before = before }
        | inr past ↦ inr (λ c. let before = c.before in absurd (omega arith))
      ]
    ]

pub subset : (before after : List Bool) (b : Block) → TakesFrames before b after → (f : ℕ) → IsFree after f → IsFree before f
subset before after b h f is =
    elim (decide_covers b f) [
      | inl c ↦ h.were_free f c
      | inr c ↦ (h.others f c).0 is
    ]

free_of_more : (before after : List Bool) (b c : Block) → TakesFrames before b after → IsFreeBlock after c → IsFreeBlock before c
free_of_more before after b c h is =
    let block = is.block in
    record {
      block = record { order = block.order; aligned = block.aligned; inside = rw (sym h.same_length) block.inside };
      all_free = λ f q. subset before after b h f (is.all_free f q);
    }

free_of_less : (before after : List Bool) (b c : Block) → TakesFrames before b after → IsFreeBlock before c
    → ((f : ℕ) → Covers c f → Covers b f → ⊥) → IsFreeBlock after c
free_of_less before after b c h is apart =
    let block = is.block in
    record {
      block = record { order = block.order; aligned = block.aligned; inside = rw h.same_length block.inside };
      all_free = λ f q. (h.others f (apart f q)).1 (is.all_free f q);
    }

-- ---- one of the maximal free blocks is taken

-- the block that encloses a maximal free block of the smaller set is not free in the larger one
enclosing_not_free : (before after : List Bool) (b c : Block) → IsMaximalBlock before c → TakesFrames before c after → IsMaximalBlock after b
    → IsFreeBlock before (enclosing b) → ⊥
enclosing_not_free before after b c hc h hb g =
    let start = hb.is_free.all_free b.at (covers_start b) in
    let r = in_maximal before b.at (subset before after c h b.at start) in
    let m = r.0 in
    let inside = inside_maximal before (enclosing b) m g r.1 b.at (enclosing_covers b) r.2 in
    let other : (f : ℕ) → Covers m f → Covers c f → ⊥ = λ f p q.
    let same : m ≡ c = same_maximal before m c r.1 hc f p q in
    h.in_use b.at (subst (λ z. Covers z b.at) same r.2) start in
    hb.maximal (free_of_less before after c (enclosing b) h g (λ f p q.
    let from = p.from in
    let up = p.before in
    other f record { from = omega (arith, inside.0); before = omega (arith, inside.1) } q))

pub removed_maximal : (before after : List Bool) (old new : List Block) (c : Block) → AreMaximalBlocks before old → Contains old c → RemovesBlock old c new
    → TakesFrames before c after → AreMaximalBlocks after new
removed_maximal before after old new c kept there removes h =
    let hc = kept.each c there in
    record {
      each = λ b q.
          let was = kept.each b (removes.only b q) in
          record {
            is_free = free_of_less before after c b h was.is_free (λ f p r.
                let same : b ≡ c = same_maximal before b c was hc f p r in
                removes.gone (subst (Contains new) same q));
            maximal = λ g. was.maximal (free_of_more before after c (enclosing b) h g);
          };
      all = λ b hb.
          let was : IsMaximalBlock before b = record {
            is_free = free_of_more before after c b h hb.is_free;
            maximal = enclosing_not_free before after b c hc h hb;
          } in
          removes.keeps b (kept.all b was) (λ same.
          h.in_use b.at (subst (λ z. Covers z b.at) same (covers_start b)) (hb.is_free.all_free b.at (covers_start b)));
      ordered = removes.ordered;
    }

-- ---- a block is given that needs no merging

decide_share : (a b : Block) → ((f : ℕ) × Covers a f × Covers b f) ⊎ ((f : ℕ) → Covers a f → Covers b f → ⊥)
decide_share a b =
    let pa = pow_pos a.order in
    let pb = pow_pos b.order in
    elim (cases_lt b.at (a.at + 2 ^ a.order)) [
      | inr right ↦ inr (λ f p q. let before = p.before in let from = q.from in absurd (omega arith))
      | inl l ↦ elim (cases_lt a.at (b.at + 2 ^ b.order)) [
        | inr left ↦ inr (λ f p q. let from = p.from in let before = q.before in absurd (omega arith))
        | inl m ↦ elim (cases_lt a.at b.at) [
          | inl lt ↦ inl (b.at, record { from = omega arith; before = l }, covers_start b)
          | inr ge ↦ inl (a.at, covers_start a, record { from = ge; before = m })
        ]
      ]
    ]

pub added_maximal : (before after : List Bool) (old new : List Block) (u : Block) → AreMaximalBlocks before old → Inserts old u new
    → TakesFrames after u before → IsBlock (length after) u → (IsFreeBlock after (enclosing u) → ⊥) → AreMaximalBlocks after new
added_maximal before after old new u kept inserts h block alone =
    let hu : IsMaximalBlock after u = record { is_free = record { block = block; all_free = h.were_free }; maximal = alone } in
    record {
      each = λ b q. elim (inserts.only b q) [
        | inl was ↦
            let hb = kept.each b was in
            record {
              is_free = free_of_more after before u b h hb.is_free;
              maximal = λ g. hb.maximal (free_of_less after before u (enclosing b) h g (λ f p r.
                  let inside = inside_maximal after (enclosing b) u g hu f p r in
                  let start = enclosing_covers b in
                  let from = start.from in
                  let up = start.before in
                  h.in_use b.at record { from = omega (arith, inside.0); before = omega (arith, inside.1) } (hb.is_free.all_free b.at (covers_start b))));
            }
        | inr is ↦ subst (IsMaximalBlock after) (sym is) hu
      ];
      all = λ b hb. elim (decide_share b u) [
        | inl r ↦
            let same : b ≡ u = same_maximal after b u hb hu r.0 r.1 r.2 in
            subst (Contains new) (sym same) inserts.there
        | inr apart ↦
            inserts.keeps b (kept.all b record {
              is_free = free_of_less after before u b h hb.is_free apart;
              maximal = λ g. hb.maximal (free_of_more after before u (enclosing b) h g);
            })
      ];
      ordered = inserts.ordered;
    }
