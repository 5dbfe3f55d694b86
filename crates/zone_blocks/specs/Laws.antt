-- What holds of the maximal free blocks of any set of free frames.
use Rattle.std.specs.Prelude.{◌≡◌, ℕ, Bool, List}
use Rattle.std.specs.List.{Contains}
use Rattle.zone_blocks.specs.declared.block.Block.{Block}
use Rattle.zone_blocks.specs.Block.{Covers}
use Rattle.zone_blocks.specs.Areas.{IsFree, AreMaximalBlocks}

-- exactly one of the blocks has the frame
abbrev pub IsInOneBlock : List Block → ℕ → Type 0
IsInOneBlock blocks f = (b : Block) × Contains blocks b × Covers b f
    × ((c : Block) → Contains blocks c → Covers c f → c ≡ b)

-- every free frame is in exactly one of the maximal free blocks
abbrev pub EveryFreeFrameIsInOneBlock : Type 0
EveryFreeFrameIsInOneBlock = (free : List Bool) (blocks : List Block) → AreMaximalBlocks free blocks → (f : ℕ)
    → IsFree free f → IsInOneBlock blocks f

-- every frame of a maximal free block is free
abbrev pub EveryFrameInABlockIsFree : Type 0
EveryFrameInABlockIsFree =
    (free : List Bool) (blocks : List Block) → AreMaximalBlocks free blocks → (b : Block) → Contains blocks b → (f : ℕ)
    → Covers b f → IsFree free f

-- a set has one list of maximal free blocks
abbrev pub MaximalBlocksAreUnique : Type 0
MaximalBlocksAreUnique = (free : List Bool) (a b : List Block) → AreMaximalBlocks free a → AreMaximalBlocks free b
    → a ≡ b
