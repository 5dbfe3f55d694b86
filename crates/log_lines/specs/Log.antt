-- The text of a whole log.
use Rattle.std.specs.Prelude.{◌≡◌, ◌≢◌, ◌⊎◌, ℕ, ◌+◌, Bool, true, false, List, [], ◌∷◌, ◌++◌, All, filter, flat_map, length, map}
use Rattle.std.specs.List.{AllByRecursion, AllZip}
use Rattle.step_rules.specs.declared.step.Step.{Step}
use Rattle.step_rules.specs.declared.step.Answer.{Answer}
use Rattle.step_rules.specs.State.{Zone}
use Rattle.log_lines.specs.declared.line.LogLine.{LogLine}
use Rattle.log_lines.specs.declared.line.LogLine.TheVariants as kinds
use Rattle.log_lines.specs.Line.{IsLogLineText}

-- the line is neither empty nor a comment
abbrev pub says_something : LogLine → Bool
says_something kinds.Skipped = false
says_something (kinds.Zone frames cpus groups) = true
says_something (kinds.Step step answer) = true

-- the contents of a log: the sizes of the zone, and the steps with their answers
pub record WholeLog : Type 0 where
  pub zone : Zone
  pub run : List (Step × Answer)

-- the line with the sizes of the zone
abbrev pub line_of_zone : Zone → LogLine
line_of_zone zone = kinds.Zone zone.frames zone.cpus zone.groups

-- the lines are the zone's sizes, then the steps, with empty lines and comments anywhere
abbrev pub SayInOrder : List LogLine → WholeLog → Type 0
SayInOrder lines log = filter says_something lines ≡ line_of_zone log.zone ∷ map (λ e. kinds.Step e.0 e.1) log.run

-- the lines of a text, each of which ends with a line feed
pub record AreLinesOf (text : List ℕ) (lines : List (List ℕ)) : Type 0 where
  pub parts : text ≡ flat_map (λ line. line ++ 10 ∷ []) lines
  pub no_feeds : AllByRecursion (λ line. All (λ b. b ≢ 10) line) lines

-- the text is that of the log
pub record IsLog (text : List ℕ) (log : WholeLog) : Type 0 where
  pub texts : List (List ℕ)
  pub lines : List LogLine
  pub cut : AreLinesOf text texts
  pub says : AllZip IsLogLineText texts lines
  pub in_order : SayInOrder lines log

-- a log may begin with these lines
abbrev pub MayBegin : List LogLine → Type 0
MayBegin lines = (filter says_something lines ≡ []) ⊎ ((log : WholeLog) × SayInOrder lines log)

-- The text can't continue as a log after these lines. If nothing follows, none of them gave the zone's sizes.
-- Otherwise the next line has no line feed, is the text of no line, or may not come here.
pub record EndsBadly (lines : List LogLine) (rest : List ℕ) : Type 0 where
  pub no_sizes : rest ≡ [] → filter says_something lines ≡ []
  pub no_line : (next more : List ℕ) (line : LogLine) → All (λ b. b ≢ 10) next → rest ≡ next ++ 10 ∷ more
      → IsLogLineText next line
      → ¬ MayBegin (lines ++ line ∷ [])

-- a log may begin with the lines before the n-th, counted from 1, but not with the n-th added
pub record IsFirstBadLogLine (text : List ℕ) (n : ℕ) : Type 0 where
  pub front : List ℕ
  pub rest : List ℕ
  pub parts : text ≡ front ++ rest
  pub texts : List (List ℕ)
  pub lines : List LogLine
  pub cut : AreLinesOf front texts
  pub says : AllZip IsLogLineText texts lines
  pub begins : MayBegin lines
  pub place : n ≡ length texts + 1
  pub bad : EndsBadly lines rest
