-- The maximal free blocks of a zone. The set of free frames is a list of truth values, one for each frame.
use Rattle.std.specs.Prelude.{◌≡◌, ◌≢◌, ℕ, ◌<◌, ◌≤◌, ◌⊎◌, Bool, true, false, List, length}
use Rattle.std.specs.List.{Contains, AllPairs, slice_index_or}
use Rattle.zone_blocks.specs.declared.block.Block.{Block}
use Rattle.zone_blocks.specs.Block.{IsBlock, Covers, enclosing, buddy}

-- f is a frame of the zone, and is free
abbrev pub IsFree : List Bool → ℕ → Type 0
IsFree free f = slice_index_or free f false ≡ true

-- a block of the zone whose frames are all free
pub record IsFreeBlock (free : List Bool) (b : Block) : Type 0 where
  pub block : IsBlock (length free) b
  pub all_free : (f : ℕ) → Covers b f → IsFree free f

-- a free block that is inside no free block of the next order
pub record IsMaximalBlock (free : List Bool) (b : Block) : Type 0 where
  pub is_free : IsFreeBlock free b
  pub maximal : ¬ IsFreeBlock free (enclosing b)

-- walk order: a is of a lower order, or of the same order and at a lower address
abbrev pub Precedes : Block → Block → Type 0
Precedes a b = (a.order < b.order) ⊎ ((a.order ≡ b.order) × (a.at < b.at))

-- the blocks are the maximal free blocks of the set, each once, in walk order
pub record AreMaximalBlocks (free : List Bool) (blocks : List Block) : Type 0 where
  pub each : (b : Block) → Contains blocks b → IsMaximalBlock free b
  pub all : (b : Block) → IsMaximalBlock free b → Contains blocks b
  pub ordered : AllPairs Precedes blocks

-- what a caller sees of free areas: how many frames the zone has, and the free blocks in walk order
pub record FreeBlocks : Type 0 where
  pub frames : ℕ
  pub blocks : List Block

-- blocks of the zone in walk order, of which no two share a frame
pub record AreBlocksApart (frames : ℕ) (blocks : List Block) : Type 0 where
  pub each : (b : Block) → Contains blocks b → IsBlock frames b
  pub apart : (a b : Block) → Contains blocks a → Contains blocks b → (f : ℕ) → Covers a f → Covers b f → a ≡ b
  pub ordered : AllPairs Precedes blocks

-- a block of the list shares a frame with b
abbrev pub Overlaps : List Block → Block → Type 0
Overlaps blocks b = (c : Block) × Contains blocks c × ((f : ℕ) × Covers c f × Covers b f)

-- exactly one of the block and its buddy is in the list
abbrev pub IsOneOfPair : List Block → Block → Type 0
IsOneOfPair blocks b = (Contains blocks b × ¬ Contains blocks (buddy b))
    ⊎ ((¬ Contains blocks b) × Contains blocks (buddy b))

-- no block is of exactly this order
abbrev pub HasNoneOf : List Block → ℕ → Type 0
HasNoneOf blocks order = (b : Block) → Contains blocks b → b.order ≢ order

-- no block is of this order or above
abbrev pub HasNoneFrom : List Block → ℕ → Type 0
HasNoneFrom blocks order = (b : Block) → Contains blocks b → b.order < order

-- b is the block of exactly this order with the least address
pub record IsFirstOf (blocks : List Block) (order : ℕ) (b : Block) : Type 0 where
  pub there : Contains blocks b
  pub order_is : b.order ≡ order
  pub least_address : (c : Block) → Contains blocks c → c.order ≡ order → b.at ≤ c.at

-- b is of the least order, from this one on, that has a block; of that order it has the least address
pub record IsSmallestFrom (blocks : List Block) (order : ℕ) (b : Block) : Type 0 where
  pub there : Contains blocks b
  pub sufficient : order ≤ b.order
  pub least_order : (c : Block) → Contains blocks c → order ≤ c.order → b.order ≤ c.order
  pub least_address : (c : Block) → Contains blocks c → c.order ≡ b.order → b.at ≤ c.at

-- b is of this order, and begins at the same frame as the block of the least sufficient order with the least address
-- (Knuth)
pub record IsFrontOfSmallest (blocks : List Block) (order : ℕ) (b : Block) : Type 0 where
  pub order_is : b.order ≡ order
  pub smallest : Block
  pub is_smallest : IsSmallestFrom blocks order smallest
  pub front : b.at ≡ smallest.at

-- the list after has the blocks before and b, in walk order
pub record Inserts (before : List Block) (b : Block) (after : List Block) : Type 0 where
  pub there : Contains after b
  pub keeps : (c : Block) → Contains before c → Contains after c
  pub only : (c : Block) → Contains after c → Contains before c ⊎ (c ≡ b)
  pub ordered : AllPairs Precedes after

-- the list after has the blocks before except b, in walk order
pub record RemovesBlock (before : List Block) (b : Block) (after : List Block) : Type 0 where
  pub gone : ¬ Contains after b
  pub keeps : (c : Block) → Contains before c → c ≢ b → Contains after c
  pub only : (c : Block) → Contains after c → Contains before c
  pub ordered : AllPairs Precedes after
