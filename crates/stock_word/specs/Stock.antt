-- What a stock word says, and which words are a CPU's.
use Rattle.std.specs.Prelude.{ℕ, ◌+◌, ◌*◌, ◌<◌, Bool, true, false, Option, Some, None}
use Rattle.group_tree.specs.{most_groups}
use Rattle.stock_word.specs.declared.stock.Stock.{Stock}
use Rattle.stock_word.specs.declared.stock.Stock.TheVariants.{NoGroup, HeldBy, DrainedOf}

-- how much a group counts in a stock's word: the pages are below this
abbrev pub group_base : ℕ
group_base = 65536

-- the word of a drained stock is this or more
abbrev pub drained_base : ℕ
drained_base = 4294967296

-- the word of a stock
abbrev pub word_of : Stock → ℕ
word_of NoGroup = 0
word_of (HeldBy g n) = (g + 1) * group_base + n
word_of (DrainedOf g) = drained_base + (g + 1) * group_base

-- the stock has a word: the number of its group is a group's, and its pages are below `group_base`
abbrev pub HasWord : Stock → Type 0
HasWord NoGroup = Unit {0}
HasWord (HeldBy g n) = (g < most_groups) × (n < group_base)
HasWord (DrainedOf g) = g < most_groups

-- the pages in a stock
abbrev pub stock_pages_of : Stock → ℕ
stock_pages_of NoGroup = 0
stock_pages_of (HeldBy g n) = n
stock_pages_of (DrainedOf g) = 0

-- the group of a stock
abbrev pub group_of : Stock → Option ℕ
group_of NoGroup = None
group_of (HeldBy g n) = Some g
group_of (DrainedOf g) = Some g

-- whether the stock is held by a group; a stock of no group and a drained one are not
abbrev pub is_held : Stock → Bool
is_held NoGroup = false
is_held (HeldBy g n) = true
is_held (DrainedOf g) = false

-- the stock after a drain
abbrev pub drained_of : Stock → Stock
drained_of NoGroup = NoGroup
drained_of (HeldBy g n) = DrainedOf g
drained_of (DrainedOf g) = DrainedOf g

-- the index of the CPU's stock word
abbrev pub stock_index : ℕ → ℕ
stock_index cpu = 16 * cpu

-- the index of the CPU's report word, next to its stock word
abbrev pub report_index : ℕ → ℕ
report_index cpu = 16 * cpu + 1
