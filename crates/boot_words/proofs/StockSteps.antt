-- The rule of the one table after an atomic step on a word of a stock.
use Rattle.std.proofs.Common.{◌≡◌, ℕ, ◌≤◌, List, set, arith, ◌<◌, take}
use Rattle.std.specs.Prelude.{slice_index}
use Rattle.std.proofs.lemmas.List.{drop-set-lt, get_or-take}
use Rattle.std.proofs.Math.Seq.{take-set-lt}
use Rattle.stock_word.specs.Stock.{report_index, stock_index}
use Rattle.step_rules.specs.State.{Zone}
use Rattle.boot_words.specs.Words.{Words}
use Rattle.boot_words.specs.Rule.{frame_base, words_in}

-- word i of the part is word j of the table
pub record IsAt (front : List ℕ → List ℕ) (i j : ℕ) : Type 0 where
  pub reads : (ws : List ℕ) → slice_index (front ws) i ≡ slice_index ws j
  pub writes : (ws : List ℕ) (x : ℕ) → front (set ws j x) ≡ set (front ws) i x

-- a CPU's words are in its row, below the words of the frames
pub stock_low : (zone : Zone) (cpu : ℕ) → cpu ≤ zone.cpus → stock_index cpu < frame_base zone
stock_low zone cpu high = omega (arith, high)

pub report_low : (zone : Zone) (cpu : ℕ) → cpu ≤ zone.cpus → report_index cpu < frame_base zone
report_low zone cpu high = omega (arith, high)

-- word i of the stocks is word i of the table
pub stock_is_at : (zone : Zone) (i : ℕ) → i < frame_base zone → IsAt (take (frame_base zone)) i i
stock_is_at zone i low = record {
  reads = λ ws. get_or-take (frame_base zone) ws i 0 low;
  writes = λ ws x. take-set-lt (frame_base zone) ws i x low;
}

-- the words with another word i of the stocks
abbrev pub with_stocks_at : Words → ℕ → ℕ → Words
with_stocks_at words i x = record words { stocks = set words.stocks i x }

pub stock_words_set : (zone : Zone) (i x : ℕ) → i < frame_base zone → (ws : List ℕ) → words_in zone (set ws i x) ≡ with_stocks_at (words_in zone ws) i x
stock_words_set zone i x low ws j = record {
  frames = drop-set-lt (frame_base zone) ws i x low j;
  stocks = take-set-lt (frame_base zone) ws i x low j;
}
