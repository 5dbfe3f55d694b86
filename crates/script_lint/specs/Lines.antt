-- Where a line goes wrong, and why.
use Rattle.std.specs.Prelude.{◌≡◌, ◌⊎◌, ℕ, ◌+◌, ◌<◌, ◌≤◌, Bool, true, false, List, ◌++◌, Option, None, Some, if◌then◌else◌, length, nat_lt, take}
use Rattle.zone_blocks.specs.declared.config.Config.{Config}
use Rattle.zone_blocks.specs.Config.{most_cpus, most_frames}
use Rattle.script_lines.specs.Script.{IsRequestText, is_go, is_skipped, longest_line}
use Rattle.script_lines.specs.declared.line.Command.{Command}
use Rattle.script_lint.specs.Causes.{cause_at}
use Rattle.script_lint.specs.declared.finding.Cause.{Cause}
use Rattle.script_lint.specs.declared.finding.Cause.TheVariants.{InputTooLong, LineTooLong}
use Rattle.script_lint.specs.declared.finding.Spot.{Spot}

-- there is a frame and a CPU, no more of them than a zone may have, and room for the root
pub record HasValidCounts (sizes : Config) : Type 0 where
  pub frames_low : 1 ≤ sizes.frames
  pub frames_high : sizes.frames ≤ most_frames
  pub cpus_low : 1 ≤ sizes.cpus
  pub cpus_high : sizes.cpus ≤ most_cpus
  pub groups_low : 1 ≤ sizes.choices.groups

-- `P COMMAND`
abbrev pub IsRequest : Config → List ℕ → Type 0
IsRequest sizes text = (cpu : ℕ) × (command : Command) × IsRequestText sizes cpu command text

-- the text of a line, however long: it is empty, a comment, `go` or `P COMMAND`, and isn't `go` after a `go`
pub record IsGoodText (sizes : Config) (had_go : Bool) (text : List ℕ) : Type 0 where
  pub says : is_skipped text ≡ false → (is_go text ≡ true) ⊎ IsRequest sizes text
  pub once : had_go ≡ true → is_go text ≡ false

-- a text of this form begins so
abbrev pub GoesOn : (List ℕ → Type 0) → List ℕ → Type 0
GoesOn Form front = (rest : List ℕ) × Form (front ++ rest)

-- the text isn't of this form: its first `place` bytes can be continued to one that is, and with one byte more they
-- can't; or all of its bytes can be continued, and the text ends too early
pub record IsStuck (Form : List ℕ → Type 0) (text : List ℕ) (place : ℕ) : Type 0 where
  pub inside : place ≤ length text
  pub goes_on : GoesOn Form (take place text)
  pub stuck : place < length text → ¬ GoesOn Form (take (place + 1) text)
  pub bad : ¬ Form text

-- a good text that is short enough, if the line is within the script (the fact `Within`)
pub record IsGoodHere (sizes : Config) (had_go : Bool) (Within : Type 0) (text : List ℕ) : Type 0 where
  pub good : IsGoodText sizes had_go text
  pub short : length text ≤ longest_line
  pub within : Within

-- a good text begins so, and so many bytes may be on a line
pub record GoesOnHere (sizes : Config) (had_go : Bool) (front : List ℕ) : Type 0 where
  pub short : length front ≤ longest_line
  pub on : GoesOn (IsGoodText sizes had_go) front

-- Why the text goes wrong at this place. If the line isn't within the script, the script is too long: its line may have
-- been cut off. Else the line is too long only if a good text goes on with the byte that is one too many.
abbrev pub IsCause : Config → Bool → Type 0 → List ℕ → ℕ → Cause → Type 0
IsCause sizes had_go Within text place InputTooLong = ¬ Within
IsCause sizes had_go Within text place LineTooLong =
    Within × (place ≡ longest_line) × (place < length text) × GoesOn (IsGoodText sizes had_go) (take (place + 1) text)
IsCause sizes had_go Within text place cause =
    Within × IsStuck (IsGoodText sizes had_go) text place × (cause ≡ cause_at text place)

-- the bytes before the place go on to a good line, and with one byte more they don't, or the line ends wrongly; and the
-- cause
pub record IsSpot (sizes : Config) (had_go : Bool) (Within : Type 0) (text : List ℕ) (spot : Spot) : Type 0 where
  pub inside : spot.place ≤ length text
  pub goes_on : GoesOnHere sizes had_go (take spot.place text)
  pub stuck : spot.place < length text → ¬ GoesOnHere sizes had_go (take (spot.place + 1) text)
  pub bad : ¬ IsGoodHere sizes had_go Within text
  pub cause : IsCause sizes had_go Within text spot.place spot.cause

-- where a text goes wrong whose bytes from this place on don't go on, however long it may be
abbrev pub stuck_spot : List ℕ → ℕ → Spot
stuck_spot text place =
    if nat_lt longest_line place then record { place = longest_line; cause = LineTooLong }
    else record { place = place; cause = cause_at text place }

-- where a text goes wrong that is good, however long it may be; None if it isn't too long
abbrev pub whole_spot : List ℕ → Option Spot
whole_spot text =
    if nat_lt longest_line (length text) then Some (record { place = longest_line; cause = LineTooLong })
    else None

-- where a text goes wrong that isn't within the script: where it would by itself, or at its end
abbrev pub spot_past_limit : List ℕ → Option Spot → Spot
spot_past_limit text None = record { place = length text; cause = InputTooLong }
spot_past_limit text (Some spot) = record { place = spot.place; cause = InputTooLong }
