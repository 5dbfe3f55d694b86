-- Sets of numbers below a bound, as lists of truth values: one for each number, whether it is in the set.
use Rattle.std.specs.Prelude.{◌≡◌, ℕ, ◌+◌, ◌*◌, ◌/◌, ◌%◌, ◌^◌, ◌<◌, ◌≤◌, ◌↔◌, ◌==◌, Bool, true, false, List, length, map, slice_index, slice_index_or}
use Rattle.std.specs.List.{range_with_len}
use Rattle.std.specs.Int.{bit_at}

-- the number is in the set
abbrev pub IsIn : List Bool → ℕ → Type 0
IsIn set number = slice_index_or set number false ≡ true

-- no number from `low` to just before `high` is in the set
abbrev pub HasNoneIn : List Bool → ℕ → ℕ → Type 0
HasNoneIn set low high = (number : ℕ) → low ≤ number → number < high → ¬ IsIn set number

-- a number from `low` to just before `high` is in the set
pub record HasSomeIn (set : List Bool) (low high : ℕ) : Type 0 where
  pub number : ℕ
  pub from : low ≤ number
  pub before : number < high
  pub there : IsIn set number

-- the last number from `low` to just before `high` that is in the set
pub record IsLastIn (set : List Bool) (low high last : ℕ) : Type 0 where
  pub from : low ≤ last
  pub before : last < high
  pub there : IsIn set last
  pub none_after : HasNoneIn set (last + 1) high

-- ---- behind the calls: 64 numbers a word

-- whether the bit of the number is 1
abbrev pub is_set : List ℕ → ℕ → Bool
is_set words number = bit_at (slice_index words (number / 64)) (number % 64) == 1

-- the set of the numbers below n whose bit in the words is 1
unfoldable pub set_of : ℕ → List ℕ → List Bool
set_of n words = map (is_set words) (range_with_len 0 n)

-- there is a word for each number up to n, n fits into 64 bits, and no bit from n on is 1
pub record AreWords (n : ℕ) (words : List ℕ) : Type 0 where
  pub small : n < 2 ^ 64
  pub count : length words ≡ n / 64 + 1
  pub rest : (number : ℕ) → n ≤ number → is_set words number ≡ false

-- the upper set has the number of each word of the lower set that has a member, and no other number
pub record IsSummaryOf (lower upper : List Bool) : Type 0 where
  pub count : length upper ≡ length lower / 64 + 1
  pub marks : (word : ℕ) → IsIn upper word ↔ HasSomeIn lower (word * 64) (word * 64 + 64)
