-- How far a log is read and checked.
use Rattle.std.specs.Prelude.{◌≡◌, ◌≢◌, ◌⊎◌, ℕ, ◌+◌, ◌-◌, ◌^◌, ◌<◌, ◌≤◌, true, false, List, [], ◌∷◌, ◌++◌, Option, Some, None, All}
use Rattle.std.specs.Prelude.{filter, length, take, ⊤}
use Rattle.std.specs.List.{AllZip}
use Rattle.step_rules.specs.declared.step.Answer.{Answer}
use Rattle.step_rules.specs.State.{State}
use Rattle.step_rules.specs.After.{IsLegalRun, Run, state_of}
use Rattle.log_check.specs.declared.reason.Reason.{Reason}
use Rattle.log_check.specs.Reasons.{IsReason}
use Rattle.mem_core.specs.{CoreState, state_shown, IsFirstIllegal}
use Rattle.log_lines.specs.declared.line.LogLine.{LogLine}
use Rattle.log_lines.specs.declared.line.LogLine.TheVariants as kinds
use Rattle.log_lines.specs.{IsLogLineText, IsZone, longest_log_line, AreLinesOf, MayBegin, SayInOrder, WholeLog, says_something}
use Rattle.log_check.specs.declared.left_out.LeftOut.{LeftOut}
use Rattle.log_check.specs.declared.verdict.IllegalStep.{IllegalStep}
use Rattle.log_check.specs.declared.verdict.LogVerdict.{LogVerdict}
use Rattle.log_check.specs.declared.verdict.LogVerdict.TheVariants as verdict
use Rattle.log_check.specs.declared.progress.Progress.{Progress}
use Rattle.log_check.specs.declared.progress.Taken.{Taken}
use Rattle.log_check.specs.declared.progress.Taken.TheVariants.{GoesOn, NotLegal, Bad}
use Rattle.log_check.specs.declared.reader.LogReader.{LogReader}
use Rattle.log_check.specs.Ends.{free_count}
use Rattle.log_check.specs.Verdicts.{IsLogVerdict, IsMisplaced, LeavesOut, at_start, most_named}

-- the sizes of a zone are in their ranges
abbrev pub HasZoneInRange : LogLine → Type 0
HasZoneInRange kinds.Skipped = ⊤
HasZoneInRange (kinds.Zone frames cpus groups) = IsZone frames cpus groups
HasZoneInRange (kinds.Step step answer) = ⊤

-- These lines, so many, are a log of so many steps. The checker took those that are legal, and shows the state that
-- they lead to; they left the lock free so often. These are the others. If there are none, the checker took all steps;
-- if all steps are legal, there are none.
pub record LeadsTo (count : ℕ) (lines : List LogLine) (s : CoreState) (steps free : ℕ) (left : List IllegalStep)
    : Type 0 where
  pub log : WholeLog
  pub order : SayInOrder lines log
  pub steps_are : steps ≡ length log.run
  pub made : Run
  pub legal : IsLegalRun log.zone made
  pub state : state_shown s ≡ state_of log.zone made
  pub free_is : free ≡ free_count log.zone made
  pub leaves : LeavesOut (at_start log.zone) lines left
      (record { lines = count; steps = steps; state = state_of log.zone made })
  pub whole : left ≡ [] → made ≡ log.run
  pub none : IsLegalRun log.zone log.run → left ≡ []

-- these lines, so many, are empty or comments
pub record SayNothing (count : ℕ) (lines : List LogLine) (steps free : ℕ) (left : List IllegalStep) : Type 0 where
  pub empty : filter says_something lines ≡ []
  pub no_steps : steps ≡ 0
  pub none_free : free ≡ 0
  pub none_left : left ≡ []
  pub leaves : (s : State)
      → LeavesOut (record { lines = 0; steps = 0; state = s }) lines [] (record { lines = count; steps = 0; state = s })

-- a checker has taken the steps of these lines, so many, except for these that aren't legal; of those that it took, so
-- many left the lock free. Without a checker, all lines are empty or comments
abbrev pub Checked : Option CoreState → (count : ℕ) → List LogLine → (steps free : ℕ) → List IllegalStep → Type 0
Checked None count lines steps free left = SayNothing count lines steps free left
Checked (Some s) count lines steps free left = LeadsTo count lines s steps free left

-- the steps of these lines were taken, except for these
abbrev pub HasChecked : Progress → (count : ℕ) → List LogLine → List IllegalStep → Type 0
HasChecked p count lines left = Checked p.checker count lines p.steps p.free left

-- the checker has taken at most this many steps
abbrev pub TookAtMost : Option CoreState → ℕ → Type 0
TookAtMost None steps = steps ≡ 0
TookAtMost (Some s) steps = s.steps ≤ steps

-- of the steps the checker has taken no more; and of these, no more left the lock free
pub record CountsSteps (p : Progress) : Type 0 where
  pub steps : TookAtMost p.checker p.steps
  pub free : p.free ≤ p.steps

-- the last of these lines is the first step whose answer isn't allowed; `expected` is allowed there, for this reason
pub record EndsIllegally (lines : List LogLine) (steps : ℕ) (expected : Answer) (reason : Reason) : Type 0 where
  pub log : WholeLog
  pub order : SayInOrder lines log
  pub count : steps ≡ length log.run
  pub first : IsFirstIllegal log.zone log.run (steps - 1) expected
  pub why : IsReason (state_of log.zone (take (steps - 1) log.run)) first.step first.answer expected reason

-- what is said of the line that comes next is true
abbrev pub TakesLine : (count : ℕ) → List LogLine → List IllegalStep → LogLine → Progress → Taken → Type 0
TakesLine count lines left line now GoesOn = HasChecked now (count + 1) (lines ++ line ∷ []) left
TakesLine count lines left line now (NotLegal expected reason) =
    (left ≡ [] → EndsIllegally (lines ++ line ∷ []) now.steps expected reason)
    × HasChecked now (count + 1) (lines ++ line ∷ [])
    (left ++ record { line = count + 1; step = now.steps; expected = expected; reason = reason } ∷ [])
TakesLine count lines left line now (Bad fault) = ¬ MayBegin (lines ++ line ∷ []) × IsMisplaced fault lines line

-- and so after all lines that were checked so
abbrev pub TakesAfter : Progress → LogLine → Progress → Taken → Type 0
TakesAfter before line now taken = (count : ℕ) (lines : List LogLine) (left : List IllegalStep)
    → HasChecked before count lines left → TakesLine count lines left line now taken

-- so many steps aren't legal, and these are the first of them
pub record AreLeftOut (left : List IllegalStep) (out : LeftOut) : Type 0 where
  pub count : out.count ≡ length left
  pub first : out.first.items ≡ take most_named left

-- the step count is at least that of the checker, and at most the number of lines, as is that of the steps that aren't
-- legal; one more line can be counted, and the unfinished one isn't too long
pub record HasRoomForLine (r : LogReader) : Type 0 where
  pub counts : CountsSteps r.progress
  pub few : r.progress.steps ≤ r.lines
  pub few_left : r.left_out.count ≤ r.lines
  pub room : r.lines + 1 < 2 ^ 64
  pub short : length r.line.items ≤ longest_log_line

-- the text is this many lines, with these contents
pub record AreWholeLines (text : List ℕ) (count : ℕ) (lines : List LogLine) : Type 0 where
  pub texts : List (List ℕ)
  pub cut : AreLinesOf text texts
  pub says : AllZip IsLogLineText texts lines
  pub count_is : count ≡ length texts

-- the text is this many lines, and the checker has taken their steps, except for these that aren't legal
pub record HasTakenLines (text : List ℕ) (count : ℕ) (p : Progress) (left : List IllegalStep) : Type 0 where
  pub lines : List LogLine
  pub are : AreWholeLines text count lines
  pub checked : HasChecked p count lines left

-- the text was read: whole lines, and then the beginning of the next one. If the check stops at a step that isn't legal,
-- there was none
pub record HasRead (text : List ℕ) (r : LogReader) : Type 0 where
  pub front : List ℕ
  pub parts : text ≡ front ++ r.line.items
  pub no_feed : All (λ b. b ≢ 10) r.line.items
  pub left : List IllegalStep
  pub taken : HasTakenLines front r.lines r.progress left
  pub left_is : AreLeftOut left r.left_out
  pub none : r.is_all ≡ false → left ≡ []

-- the text was read; or the answer is known for every text that begins with it
abbrev pub ReadsOrJudges : List ℕ → LogReader → Option LogVerdict → Type 0
ReadsOrJudges text r None = HasRead text r
ReadsOrJudges text r (Some verdict) = (rest : List ℕ) → IsLogVerdict r.is_all (text ++ rest) verdict

-- ---- what comes of a line

-- the step is among those left out, and nothing else changed
pub record AddsLeftOut (before after : LogReader) (illegal : IllegalStep) : Type 0 where
  pub line : after.line ≡ before.line
  pub lines : after.lines ≡ before.lines
  pub progress : after.progress ≡ before.progress
  pub is_all : after.is_all ≡ before.is_all
  pub noted : (left : List IllegalStep) → AreLeftOut left before.left_out
      → AreLeftOut (left ++ illegal ∷ []) after.left_out
  pub count : after.left_out.count ≡ before.left_out.count + 1

-- the step that isn't legal, on the line that ended
abbrev pub illegal_in : LogReader → Answer → Reason → IllegalStep
illegal_in r expected reason = record { line = r.lines; step = r.progress.steps; expected = expected; reason = reason }

-- the line that ended was taken so, and this is known of the log then; a step that isn't legal is noted, or the check
-- ends with it
abbrev pub Concludes : Taken → (r s : LogReader) → Option LogVerdict → Type 0
Concludes GoesOn r s known = (known ≡ None) × (s ≡ r)
Concludes (NotLegal expected reason) r s known =
    ((r.is_all ≡ false) × (known ≡ Some (verdict.NotLegal (illegal_in r expected reason))) × (s ≡ r))
    ⊎ ((r.is_all ≡ true) × (known ≡ None) × AddsLeftOut r s (illegal_in r expected reason))
Concludes (Bad fault) r s known = (known ≡ Some (verdict.BadLine r.lines fault)) × (s ≡ r)
