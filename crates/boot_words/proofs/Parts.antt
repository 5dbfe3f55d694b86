-- The words of the one table, after a store to a frame's word.
use Rattle.std.proofs.Common.{◌≡◌, ℕ, ◌+◌, ◌≤◌, List, drop, set, arith}
use Rattle.std.specs.Prelude.{slice_index}
use Rattle.std.proofs.lemmas.List.{drop-set-add, get_or-drop, take-set-le}
use Rattle.step_rules.specs.State.{Zone}
use Rattle.boot_words.specs.{with_frame_word, frame_base, words_in}

base_low : (a f : ℕ) → a ≤ a + f
base_low a f = omega arith

pub frame_reads : (zone : Zone) (f : ℕ) (ws : List ℕ) → slice_index (drop (frame_base zone) ws) f ≡ slice_index ws (frame_base zone + f)
frame_reads zone f ws = get_or-drop (frame_base zone) ws f 0

pub words_set : (zone : Zone) (f x : ℕ) (ws : List ℕ) → words_in zone (set ws (frame_base zone + f) x) ≡ with_frame_word (words_in zone ws) f x
words_set zone f x ws i = record {
  frames = drop-set-add (frame_base zone) ws f x i;
  stocks = take-set-le (frame_base zone) ws (frame_base zone + f) x (base_low (frame_base zone) f) i;
}
