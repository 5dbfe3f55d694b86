-- How the free areas are stored: for each order below 10 one bit for each pair of buddies, as in Gorman, chapter 6.
use Rattle.std.specs.Prelude.{◌≡◌, ◌≢◌, ℕ, ◌+◌, ◌⊎◌, ◌/◌, ◌^◌, ◌<◌, ◌↔◌, Bool, false, not, List, [], length, slice_index_or, slice_set}
use Rattle.std.specs.List.{Contains}
use Rattle.bit_levels.specs.Sets.{IsIn}
use Rattle.zone_blocks.specs.declared.block.Block.{Block}
use Rattle.zone_blocks.specs.Block.{HasPairBit}
use Rattle.zone_blocks.specs.Areas.{IsOneOfPair}

-- the number of the pair of a block and its buddy
abbrev pub pair_of : Block → ℕ
pair_of b = b.at / 2 ^ (b.order + 1)

-- a list of bits for each order below 10, with a bit for each pair that the zone can have
pub record AreBitLists (frames : ℕ) (pairs : List (List Bool)) : Type 0 where
  pub count : length pairs ≡ 10
  pub each : (k : ℕ) → k < 10 → length (slice_index_or pairs k []) ≡ frames / 2 ^ (k + 1)

-- the bit of each pair is 1 exactly if exactly one of the two is in the areas
pub record ArePairBits (frames : ℕ) (blocks : List Block) (pairs : List (List Bool)) : Type 0 where
  pub lists : AreBitLists frames pairs
  pub bits : (b : Block) → HasPairBit frames b → IsIn (slice_index_or pairs b.order []) (pair_of b)
      ↔ IsOneOfPair blocks b

-- the bit of the block's pair
abbrev pub bit_of : List (List Bool) → Block → Bool
bit_of pairs b = slice_index_or (slice_index_or pairs b.order []) (pair_of b) false

-- the bits with that of the block's pair toggled
abbrev pub toggled : List (List Bool) → Block → List (List Bool)
toggled pairs b = slice_set pairs b.order
    (slice_set (slice_index_or pairs b.order []) (pair_of b) (not (bit_of pairs b)))

-- one block was inserted or removed, and every other is as before
pub record ChangesOne (old new : List Block) (c : Block) : Type 0 where
  pub changed : (Contains old c × ¬ Contains new c) ⊎ ((¬ Contains old c) × Contains new c)
  pub keeps : (b : Block) → b ≢ c → Contains old b → Contains new b
  pub only : (b : Block) → b ≢ c → Contains new b → Contains old b
