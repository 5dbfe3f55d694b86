-- A block halved down to one frame of it: for `take_frame`.
use Rattle.std.proofs.Common.{◌≡◌, ℕ, ◌+◌, ◌-◌, ◌^◌, ◌%◌, ◌<◌, Bool, List, sym, ◌∙◌, ap, subst, inl, inr, arith}
use Rattle.std.specs.List.{Contains}
use Rattle.std.proofs.lemmas.Bool.{cases_lt}
use Rattle.std.proofs.lemmas.Nat.{pow_pos}
use Rattle.zone_blocks.specs.declared.block.Block.{Block}
use Rattle.zone_blocks.specs.{IsBlock, Covers, FreeBlocks, Inserts, block_at, free_set_of, AreSoundAreas, TakesFrames}
use Rattle.zone_blocks.proofs.Filling.{same_block}
use Rattle.zone_blocks.proofs.Nested.{start_is}
use Rattle.zone_blocks.proofs.Halves.{Halving, AreHalves, halve_at}

-- ---- the look for the block that has a frame

-- of an order only the block that begins at the frame less its remainder can have the frame
starts_at : (a : FreeBlocks) (b : Block) (frame size order : ℕ) → AreSoundAreas a → Contains a.blocks b → Covers b frame → b.order ≡ order → size ≡ 2 ^ order
    → b ≡ block_at (frame - frame % size) order
starts_at a b frame size order kept there c o s =
    let block = (kept.maximal.each b there).is_free.block in
    let start : ℕ → ℕ = λ m. frame - frame % m in
    let power : ℕ → ℕ = λ k. 2 ^ k in
    let e = start_is b.at (2 ^ b.order) frame (pow_pos b.order) block.aligned c.from c.before in
    same_block b (block_at (frame - frame % size) order) (e ∙ ap start (ap power o ∙ sym s)) o

pub none_of_more : (a : FreeBlocks) (frame e order size : ℕ) → AreSoundAreas a → order ≡ e → size ≡ 2 ^ order
    → ¬ Contains a.blocks (block_at (frame - frame % size) order) → ((b : Block) → Contains a.blocks b → Covers b frame → b.order < e → ⊥)
    → (b : Block) → Contains a.blocks b → Covers b frame → b.order < e + 1 → ⊥
none_of_more a frame e order size kept o s not below b there c l =
    elim (cases_lt b.order e) [
      | inl lt ↦ below b there c lt
      | inr ge ↦ not (subst (Contains a.blocks) (starts_at a b frame size order kept there c (omega arith) s) there)
    ]

-- ---- the halves without the frame

-- the areas from `old` on: of the block b, the block of order k at `at` is in use and has the frame, and the rest is free
pub record HalvedAround (old : FreeBlocks) (b : Block) (frame : ℕ) (areas : FreeBlocks) (at k : ℕ) : Type 0 where
  pub halving : Halving areas at k
  pub frames : areas.frames ≡ old.frames
  pub has_frame : Covers (block_at at k) frame
  pub taken : (free : List Bool) → TakesFrames free b (free_set_of old) → TakesFrames free (block_at at k) (free_set_of areas)

pub halved_more : (old : FreeBlocks) (b : Block) (frame : ℕ) (areas new : FreeBlocks) (at k e : ℕ) (u x y : Block) → k ≡ e + 1 → u ≡ x
    → (IsBlock areas.frames (block_at at (e + 1)) → AreHalves areas.frames (block_at at (e + 1)) x y) → HalvedAround old b frame areas at k
    → Inserts areas.blocks u new.blocks → new.frames ≡ areas.frames → Covers y frame → HalvedAround old b frame new y.at y.order
halved_more old b frame areas new at k e u x y ek eu halves h inserts same has =
    let r = halve_at areas new at k e u x y ek eu halves h.halving inserts same in
    record { halving = r.0; frames = same ∙ h.frames; has_frame = has; taken = λ free t. r.1 free (h.taken free t) }

-- a block of one frame that has the frame begins there
pub one_frame : (at k frame : ℕ) → k ≡ 0 → Covers (block_at at k) frame → (at ≡ frame) × (k ≡ 0)
one_frame at k frame e c =
    let C : ℕ → Type 0 = λ i. Covers (block_at at i) frame in
    let c' = subst C e c in
    let from = c'.from in
    let before = c'.before in
    (omega arith, e)
