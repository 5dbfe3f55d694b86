-- How the list of an order is stored: records of two neighbours, as Linux's `struct list_head` (include/linux/types.h).
use Rattle.std.specs.Prelude.{◌≡◌, ◌≢◌, ℕ, List, length, slice_index_or}
use Rattle.zone_blocks.specs.declared.links.Link.{Link}

-- the record of node x; past the last node, a blank one
abbrev pub node_at : List Link → ℕ → Link
node_at links x = slice_index_or links x record { next = 0; prev = 0 }

-- the node after x
abbrev pub next_of : List Link → ℕ → ℕ
next_of links x = (node_at links x).next

-- the node before x
abbrev pub prev_of : List Link → ℕ → ℕ
prev_of links x = (node_at links x).prev

-- b is now the node after a, and a the node before b; all else is unchanged
pub record Joins (old : List Link) (a b : ℕ) (new : List Link) : Type 0 where
  pub count : length new ≡ length old
  pub on : next_of new a ≡ b
  pub back : prev_of new b ≡ a
  pub others_on : (x : ℕ) → x ≢ a → next_of new x ≡ next_of old x
  pub others_back : (x : ℕ) → x ≢ b → prev_of new x ≡ prev_of old x
