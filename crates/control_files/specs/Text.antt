-- A text kept in an array of `longest_text` bytes.
use Rattle.std.specs.Prelude.{◌≡◌, ℕ, List, length, take}
use Rattle.group_tree.specs.Text.{IsPadded, padded, padded-text}
use Rattle.control_files.specs.declared.text.ArrayText.TheInside.{Inside}

-- how many bytes a text may have: more than any file of a group
abbrev pub longest_text : ℕ
longest_text = 256

-- the fields can be found from the text
pub text-view : (bytes : List ℕ) (len : ℕ) → IsPadded longest_text bytes len
    → ◌≡◌ {A = Inside} (record { bytes = padded longest_text (take len bytes); len = length (take len bytes) })
    (record { bytes = bytes; len = len })
text-view bytes len h =
    let size : length (take len bytes) ≡ len = (padded-text longest_text bytes len h).0 in
    let same : padded longest_text (take len bytes) ≡ bytes = (padded-text longest_text bytes len h).1 in
    cc
