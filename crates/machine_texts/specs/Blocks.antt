-- The text of the free blocks.
use Rattle.std.specs.Prelude.{ℕ, List, [], ◌∷◌, ◌++◌, codes}
use Rattle.std.specs.List.{flat_map}
use Rattle.std.specs.Fmt.{decimal}
use Rattle.zone_blocks.specs.declared.block.Block.{Block}

-- a free block: its order and its first frame
abbrev pub block_text : Block → List ℕ
block_text block = decimal block.order ++ codes ":" ++ decimal block.at

-- a free block that follows another: a space, and then its text
abbrev pub spaced_block : Block → List ℕ
spaced_block block = codes " " ++ block_text block

-- what is written for `blocks`: the free blocks with a space between each two, or `none`
abbrev pub blocks_text : List Block → List ℕ
blocks_text [] = codes "none\n"
blocks_text (first ∷ others) = block_text first ++ flat_map spaced_block others ++ codes "\n"
