-- Blocks of a zone of page frames, as in Knuth's buddy system (The Art of Computer Programming, 2.5).
use Rattle.std.specs.Prelude.{◌≡◌, ℕ, ◌+◌, ◌-◌, ◌%◌, ◌^◌, ◌<◌, ◌≤◌, ◌==◌, if◌then◌else◌}
use Rattle.zone_blocks.specs.declared.block.Block.{Block}

-- a block of a zone of this many frames: its order is at most 10, it has 2 ^ order frames and begins at a multiple of
-- that number
pub record IsBlock (frames : ℕ) (b : Block) : Type 0 where
  pub order : b.order ≤ 10
  pub aligned : b.at % 2 ^ b.order ≡ 0
  pub inside : b.at + 2 ^ b.order ≤ frames

-- frame f is one of the block
pub record Covers (b : Block) (f : ℕ) : Type 0 where
  pub from : b.at ≤ f
  pub before : f < b.at + 2 ^ b.order

-- the block of the next order that encloses b
abbrev pub enclosing : Block → Block
enclosing b = record { at = b.at - b.at % 2 ^ (b.order + 1); order = b.order + 1 }

-- the buddy of the block at x is at x + 2 ^ k if x is a multiple of 2 ^ (k + 1), else at x - 2 ^ k
abbrev pub buddy : Block → Block
buddy b = record {
  at = if b.at % 2 ^ (b.order + 1) == 0 then b.at + 2 ^ b.order else b.at - 2 ^ b.order;
  order = b.order;
}

-- the block and its buddy are blocks of the zone, of an order below 10, so that the pair has a bit (Gorman, chapter 6)
pub record HasPairBit (frames : ℕ) (b : Block) : Type 0 where
  pub order : b.order < 10
  pub block : IsBlock frames b
  pub buddy_too : IsBlock frames (buddy b)
