-- A zone whose frames are taken and freed in blocks, as in Knuth's buddy system (The Art of Computer Programming, 2.5).
use Rattle.std.specs.Prelude.{◌≡◌, ◌+◌, ◌^◌, ℕ, ◌<◌, ◌↔◌, ◌⊎◌, ◌&&◌, Bool, List, length, map, nat_le, nat_lt}
use Rattle.std.specs.List.{Contains, list_any, range_with_len}
use Rattle.zone_blocks.specs.declared.block.Block.{Block}
use Rattle.zone_blocks.specs.Block.{IsBlock, Covers, enclosing, buddy}
use Rattle.zone_blocks.specs.Areas.{IsFree, AreMaximalBlocks, FreeBlocks, RemovesBlock}

-- what a caller sees of a zone: for each frame whether it is free, and the maximal free blocks in walk order
pub record BuddyZone : Type 0 where
  pub free : List Bool
  pub blocks : List Block

-- the block's frames were free and are in use now, and all others are unchanged
pub record TakesFrames (before : List Bool) (b : Block) (after : List Bool) : Type 0 where
  pub same_length : length after ≡ length before
  pub were_free : (f : ℕ) → Covers b f → IsFree before f
  pub in_use : (f : ℕ) → Covers b f → ¬ IsFree after f
  pub others : (f : ℕ) → ¬ Covers b f → IsFree after f ↔ IsFree before f

-- the block's frames were in use and are free now, and all others are unchanged
abbrev pub GivesFrames : List Bool → Block → List Bool → Type 0
GivesFrames before b after = TakesFrames after b before

-- a block of the zone whose frames are all in use
pub record IsInUse (free : List Bool) (b : Block) : Type 0 where
  pub block : IsBlock (length free) b
  pub none_free : (f : ℕ) → Covers b f → ¬ IsFree free f

-- ---- behind the calls

-- the block of this order whose first frame is `at`
abbrev pub block_at : ℕ → ℕ → Block
block_at at order = record { at = at; order = order }

-- whether the block has frame f
abbrev pub covers : ℕ → Block → Bool
covers f b = nat_le b.at f && nat_lt f (b.at + 2 ^ b.order)

-- for each frame, whether a block of the areas has it
unfoldable pub free_set_of : FreeBlocks → List Bool
free_set_of areas = map (λ f. list_any (covers f) areas.blocks) (range_with_len 0 areas.frames)

-- what a caller sees of these areas: for each frame whether it is free, and their blocks
abbrev pub buddy_zone_of : FreeBlocks → BuddyZone
buddy_zone_of areas = record { free = free_set_of areas; blocks = areas.blocks }

-- the areas are the maximal free blocks of their frames, and each frame number has 32 bits
pub record AreSoundAreas (areas : FreeBlocks) : Type 0 where
  pub maximal : AreMaximalBlocks (free_set_of areas) areas.blocks
  pub small : areas.frames < 2 ^ 32

-- no block of these has the frame
abbrev pub HasNoBlockWith : List Block → ℕ → Type 0
HasNoBlockWith blocks frame = (b : Block) → Contains blocks b → ¬ Covers b frame

-- nothing changed, and there is no free buddy to merge b with
pub record HasNoBuddy (before : FreeBlocks) (b : Block) (after : FreeBlocks) : Type 0 where
  pub same : after ≡ before
  pub none : (b.order ≡ 10) ⊎ (¬ Contains before.blocks (buddy b))

-- b's buddy was free and is removed from the areas; `larger` is the block of both
pub record TakesBuddy (before : FreeBlocks) (b : Block) (after : FreeBlocks) (larger : Block) : Type 0 where
  pub there : Contains before.blocks (buddy b)
  pub order_below : b.order < 10
  pub same_frames : after.frames ≡ before.frames
  pub taken : RemovesBlock before.blocks (buddy b) after.blocks
  pub larger_is : larger ≡ enclosing b
