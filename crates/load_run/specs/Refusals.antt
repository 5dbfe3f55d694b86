-- Whether some answer is a refusal, and the status that answers have.
use Rattle.std.specs.Prelude.{ℕ, Bool, true, false, List, ◌==◌, ◌&&◌, codes, if◌then◌else◌}
use Rattle.std.specs.List.{list_any, slice_get, slice_split}
use Rattle.std.specs.Option.{option_map_or}
use Rattle.std.specs.Str.{bytes_eq}

-- the place of a line's first word of the answer: a number before it is a word of its own
abbrev pub first_word : (is_numbered : Bool) → ℕ
first_word true = 1
first_word false = 0

-- whether the line begins with the word `refused`, after its number if it has one
abbrev pub is_refusal : (is_numbered : Bool) → List ℕ → Bool
is_refusal is_numbered line =
    option_map_or (λ word. bytes_eq word (codes "refused"))
    (slice_get (slice_split (λ byte. byte == 32) line) (first_word is_numbered)) false

-- whether some line does
abbrev pub has_refusal : (is_numbered : Bool) → List ℕ → Bool
has_refusal is_numbered text = list_any (is_refusal is_numbered) (slice_split (λ byte. byte == 10) text)

-- the status of answers that were written: 3 if the options ask for it and some answer is a refusal, else 0
abbrev pub answered_status : (is_strict is_numbered : Bool) → List ℕ → ℕ
answered_status is_strict is_numbered text = if is_strict && has_refusal is_numbered text then 3 else 0
