-- The lines of events, written one key after the other. Serves `events_text`.
use Rattle.std.proofs.Common.{◌≡◌, ℕ, ◌+◌, ◌≤◌, ◌<◌, List, [], ◌++◌, length, take, drop, get_or, refl, ◌∙◌, ap, arith}
use Rattle.std.specs.List.{flat_map, sum_by}
use Rattle.std.proofs.lemmas.List.{flat_map_more, take_more}
use Rattle.std.proofs.lemmas.List.Sums.{sum_by-drop_more}
use Rattle.group_tree.specs.declared.event.EventKey.{EventKey}
use Rattle.group_tree.specs.Events.{EventCounts, all_keys, count_of, key_name}
use Rattle.control_files.specs.Files.{count_line, events_text}

-- the line of a key, and the bytes that it takes at most: a space, 20 digits and a line feed come to the key
abbrev line_of : EventCounts → EventKey → List ℕ
line_of counts key = count_line (key_name key) (count_of counts key)

abbrev line_room : EventKey → ℕ
line_room key = length (key_name key) + 22

-- the lines of the first keys are written, and there is room for those of the others
abbrev pub AreWritten : EventCounts → List EventKey → ℕ → List ℕ → Type 0
AreWritten counts keys n text = (text ≡ flat_map (line_of counts) (take n keys))
    × (length text + sum_by line_room (drop n keys) ≤ 256)

pub no_line : (counts : EventCounts) → AreWritten counts all_keys 0 []
no_line counts = (refl, omega arith)

pub line_fits : (counts : EventCounts) (keys : List EventKey) (n : ℕ) (d : EventKey) (text : List ℕ) → n < length keys → AreWritten counts keys n text →
    length text + length (key_name (get_or keys n d)) + 22 ≤ 256
line_fits counts keys n d text inside h = omega (arith, h.1, sum_by-drop_more line_room keys n d inside)

pub line_written : (counts : EventCounts) (keys : List EventKey) (n : ℕ) (d : EventKey) (text new : List ℕ) → n < length keys → AreWritten counts keys n text →
    new ≡ text ++ line_of counts (get_or keys n d) → length new ≤ length text + length (key_name (get_or keys n d)) + 22 → AreWritten counts keys (n + 1) new
line_written counts keys n d text new inside h new_is short = (
  new_is ∙ (ap (λ t. t ++ line_of counts (get_or keys n d)) h.0
      ∙ rw (take_more keys n d inside) (flat_map_more (line_of counts) [] (take n keys) (get_or keys n d))),
  omega (arith, h.1, sum_by-drop_more line_room keys n d inside),
)

pub all_lines : (counts : EventCounts) (n : ℕ) (text : List ℕ) → n ≡ length all_keys → AreWritten counts all_keys n text → text ≡ events_text counts
unfolding events_text
all_lines counts n text end h = h.0 ∙ rw end refl
