-- The lines of a log: the zone's sizes, then one line for each step and its answer.
use Rattle.std.specs.Prelude.{◌≡◌, ℕ, ◌≤◌, ◌==◌, Bool, true, IsTrue, List, [], ◌∷◌, ◌++◌, codes, decimal, length, if◌then◌else◌}
use Rattle.std.specs.List.{AllByRecursion}
use Rattle.step_rules.specs.declared.step.Step.{Step}
use Rattle.step_rules.specs.declared.step.Answer.{Answer}
use Rattle.group_tree.specs.Bounds.{most_groups}
use Rattle.zone_blocks.specs.Config.{most_cpus, most_frames, no_choices}
use Rattle.log_lines.specs.declared.line.LogLine.{LogLine}
use Rattle.log_lines.specs.declared.line.LogLine.TheVariants as kinds
use Rattle.log_lines.specs.Words.{Word, Fixed, Fits, number, action_words, answer_words, spaced}

-- the most bytes of a line, without its line feed
abbrev pub longest_log_line : ℕ
longest_log_line = 1024

-- the words after the seat: an action, `>`, and the answer
abbrev pub step_words : Step → Answer → List Word
step_words step answer = action_words step.action ++ Fixed (codes ">") ∷ answer_words answer

-- `SEAT ACTION > ANSWER`
abbrev pub entry_text : Step → Answer → List ℕ
entry_text step answer = decimal step.seat ++ spaced (step_words step answer)

-- `groups N` if the zone has room for another number of groups than by default
abbrev pub groups_words : ℕ → List Word
groups_words groups = if groups == no_choices.groups then [] else Fixed (codes "groups") ∷ number groups ∷ []

-- the words after `zone`
abbrev pub zone_words : (frames cpus groups : ℕ) → List Word
zone_words frames cpus groups = number frames ∷ number cpus ∷ groups_words groups

-- `zone FRAMES CPUS`, and then perhaps `groups N`
abbrev pub zone_text : (frames cpus groups : ℕ) → List ℕ
zone_text frames cpus groups = codes "zone" ++ spaced (zone_words frames cpus groups)

-- the numbers of a step and its answer are in their ranges, and a line can contain its path
abbrev pub IsEntry : Step → Answer → Type 0
IsEntry step answer = AllByRecursion Fits (number step.seat ∷ step_words step answer)

-- the sizes of a zone are in their ranges
pub record IsZone (frames cpus groups : ℕ) : Type 0 where
  pub some_frames : 1 ≤ frames
  pub most_frames : frames ≤ most_frames
  pub some_cpus : 1 ≤ cpus
  pub most_cpus : cpus ≤ most_cpus
  pub some_groups : 1 ≤ groups
  pub most_groups : groups ≤ most_groups

-- an empty text, or a comment
abbrev pub is_log_comment : List ℕ → Bool
is_log_comment [] = true
is_log_comment (b ∷ bs) = b == 35

-- the text is that of the line
abbrev pub IsTextOfLogLine : List ℕ → LogLine → Type 0
IsTextOfLogLine text kinds.Skipped = IsTrue (is_log_comment text)
IsTextOfLogLine text (kinds.Zone frames cpus groups) =
    IsZone frames cpus groups × (text ≡ zone_text frames cpus groups)
IsTextOfLogLine text (kinds.Step step answer) = IsEntry step answer × (text ≡ entry_text step answer)

-- the text is that of the line, and not too long
pub record IsLogLineText (text : List ℕ) (line : LogLine) : Type 0 where
  pub short : length text ≤ longest_log_line
  pub says : IsTextOfLogLine text line
