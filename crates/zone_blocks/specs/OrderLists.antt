-- How the free areas are stored: for each order the set of its blocks, and the list that links them by address.
use Rattle.std.specs.Prelude.{◌≡◌, ℕ, ◌+◌, ◌*◌, ◌/◌, ◌^◌, ◌<◌, ◌≤◌, ◌⊎◌, ◌&&◌, ◌||◌, Bool, false, Option, None, Some}
use Rattle.std.specs.Prelude.{nat_eq, nat_lt, nat_le, List, [], length, map, slice_index_or, slice_set}
use Rattle.std.specs.List.{AllPairs, Contains, flat_map, filter, range_with_len}
use Rattle.bit_levels.specs.Sets.{IsIn, HasNoneIn, IsLastIn}
use Rattle.zone_blocks.specs.declared.block.Block.{Block}
use Rattle.zone_blocks.specs.declared.links.Link.{Link}
use Rattle.zone_blocks.specs.Block.{Covers}
use Rattle.zone_blocks.specs.Areas.{IsMaximalBlock, Precedes}
use Rattle.zone_blocks.specs.Links.{next_of, prev_of}

-- ---- the set of blocks: for each order a bit for each block that the zone can have

-- the bit of the block: whether it is in the areas
abbrev pub has_block_bit : List (List Bool) → Block → Bool
has_block_bit bits b = slice_index_or (slice_index_or bits b.order []) (b.at / 2 ^ b.order) false

-- the bits, with a new value for the block of this order and number
abbrev pub with_bit : List (List Bool) → ℕ → ℕ → Bool → List (List Bool)
with_bit bits order number value = slice_set bits order (slice_set (slice_index_or bits order []) number value)

-- the blocks of one order that a zone can have, by address
abbrev pub blocks_of_order : ℕ → ℕ → List Block
blocks_of_order frames order = map (λ i. record { at = i * 2 ^ order; order = order })
    (range_with_len 0 (frames / 2 ^ order))

-- the blocks of all orders that a zone can have, in walk order
abbrev pub blocks_of_zone : ℕ → List Block
blocks_of_zone frames = flat_map (blocks_of_order frames) (range_with_len 0 11)

-- the blocks in the areas, in walk order
unfoldable pub blocks_of : ℕ → List (List Bool) → List Block
blocks_of frames bits = filter (has_block_bit bits) (blocks_of_zone frames)

-- there are bits for each order, one for each block that the zone can have
pub record AreBlockBits (frames : ℕ) (bits : List (List Bool)) : Type 0 where
  pub count : length bits ≡ 11
  pub each : (k : ℕ) → k < 11 → length (slice_index_or bits k []) ≡ frames / 2 ^ k

-- no two of the blocks share a frame
abbrev pub AreApart : List Block → Type 0
AreApart blocks = (a b : Block) → Contains blocks a → Contains blocks b → (f : ℕ) → Covers a f → Covers b f → a ≡ b

-- a block of this order, of which these are the bits, has a frame from `at` to just before `end`
abbrev pub MeetsRange : List Bool → ℕ → ℕ → ℕ → Type 0
MeetsRange bits order at end = (i : ℕ) × IsIn bits i × (i * 2 ^ order < end) × (at < i * 2 ^ order + 2 ^ order)

-- ---- the list of an order: a ring of nodes, each the first frame of a block, and a head after all frames

-- the node of the head of the order's ring
abbrev pub head_of : ℕ → ℕ → ℕ
head_of frames order = frames + order

-- a block of this order that begins at x is in the areas
abbrev pub IsStart : List Block → ℕ → ℕ → Type 0
IsStart blocks order x = Contains blocks record { at = x; order = order }

-- the node is the head, or the first frame of a block of this order in the areas
abbrev pub IsNode : ℕ → List Block → ℕ → ℕ → Type 0
IsNode frames blocks order x = IsStart blocks order x ⊎ (x ≡ head_of frames order)

-- x comes after the node a; all nodes come after the head
abbrev pub ComesAfter : ℕ → ℕ → ℕ → ℕ → Type 0
ComesAfter frames order a x = (a ≡ head_of frames order) ⊎ (a < x)

-- of the nodes before x, a is the last: no block begins after a and before x
pub record IsLastBefore (frames : ℕ) (blocks : List Block) (order a x : ℕ) : Type 0 where
  pub node : IsNode frames blocks order a
  pub before : ComesAfter frames order a x
  pub none_between : (z : ℕ) → IsStart blocks order z → ComesAfter frames order a z → x ≤ z

-- b is the node after a in the ring of this order
pub record Follows (frames : ℕ) (blocks : List Block) (order a b : ℕ) : Type 0 where
  pub node : IsNode frames blocks order b
  pub last : IsLastBefore frames blocks order a b

-- the records are the rings of all orders
pub record AreRings (frames : ℕ) (blocks : List Block) (links : List Link) : Type 0 where
  pub count : length links ≡ frames + 11
  pub next : (k x : ℕ) → k < 11 → IsNode frames blocks k x → Follows frames blocks k x (next_of links x)
  pub prev : (k x : ℕ) → k < 11 → IsNode frames blocks k x → Follows frames blocks k (prev_of links x) x

-- the bits and the records of free areas agree, and no two blocks share a frame
pub record AreOrderLists (frames : ℕ) (bits : List (List Bool)) (links : List Link) : Type 0 where
  pub sizes : AreBlockBits frames bits
  pub apart : AreApart (blocks_of frames bits)
  pub rings : AreRings frames (blocks_of frames bits) links

-- The node before a block's number by the bits of an order: the last block below it, or the head.
abbrev pub IsNodeBelow : ℕ → List Bool → ℕ → ℕ → ℕ → Type 0
IsNodeBelow frames bits order number node =
    (HasNoneIn bits 0 number × (node ≡ head_of frames order))
    ⊎ ((i : ℕ) × IsLastIn bits 0 number i × (node ≡ i * 2 ^ order))

-- the node before a block: the head if the block begins before the first of its order, else by the bits
abbrev pub IsNodeBefore : ℕ → List Link → List Bool → Block → ℕ → Type 0
IsNodeBefore frames links bits b node =
    ((node ≡ head_of frames b.order) × (b.at < next_of links (head_of frames b.order)))
    ⊎ IsNodeBelow frames bits b.order (b.at / 2 ^ b.order) node

-- ---- the walk

-- c comes after b in walk order, with no block between them
pub record IsNextAfter (blocks : List Block) (b c : Block) : Type 0 where
  pub there : Contains blocks c
  pub later : Precedes b c
  pub least : (d : Block) → Contains blocks d → Precedes b d → (d ≡ c) ⊎ Precedes c d

-- no block comes after b in walk order
abbrev pub HasNoneAfter : List Block → Block → Type 0
HasNoneAfter blocks b = (d : Block) → Contains blocks d → ¬ Precedes b d

-- whether c is b or comes after b in walk order
abbrev pub is_from : Block → Block → Bool
is_from b c = nat_lt b.order c.order || nat_eq b.order c.order && nat_le b.at c.at

-- the blocks from this one on, or none if no block is given
unfoldable pub blocks_from : List Block → Option Block → List Block
blocks_from blocks None = []
blocks_from blocks (Some b) = filter (is_from b) blocks

-- ---- the filling of empty areas

-- the blocks are the maximal free ones of all lower orders, and those of this order before number i, in walk order
pub record AreMaximalUpTo (free : List Bool) (order i : ℕ) (blocks : List Block) : Type 0 where
  pub each : (b : Block) → Contains blocks b → IsMaximalBlock free b
  pub before : (b : Block) → Contains blocks b → (b.order < order) ⊎ ((b.order ≡ order) × (b.at < i * 2 ^ order))
  pub all : (b : Block) → IsMaximalBlock free b → (b.order < order) ⊎ ((b.order ≡ order) × (b.at < i * 2 ^ order))
      → Contains blocks b
  pub ordered : AllPairs Precedes blocks
