-- What a check says of the text of a log.
use Rattle.std.specs.Prelude.{◌≡◌, ◌≢◌, ◌⊎◌, ℕ, ◌+◌, ◌-◌, ◌<◌, ◌==◌, Bool, true, false, List, [], ◌∷◌, ◌++◌, All, filter, length, take}
use Rattle.std.specs.Prelude.{if◌then◌else◌, slice_get}
use Rattle.std.specs.Option.{option_map_or}
use Rattle.std.specs.List.{list_any, starts_with}
use Rattle.step_rules.specs.declared.step.Answer.{Answer}
use Rattle.step_rules.specs.declared.step.Step.{Step}
use Rattle.step_rules.specs.State.{State}
use Rattle.step_rules.specs.{Zone, at_boot, Allows, IsLegalRun, after, state_of}
use Rattle.log_check.specs.Reasons.{IsReason}
use Rattle.mem_core.specs.{IsFirstIllegal, AlwaysKeepsPromise}
use Rattle.log_lines.specs.declared.line.LogLine.{LogLine}
use Rattle.log_lines.specs.declared.line.LogLine.TheVariants as kinds
use Rattle.log_lines.specs.{IsLogLineText, longest_log_line, IsFirstBadLogLine, IsLog, WholeLog, says_something}
use Rattle.log_check.specs.declared.line_fault.LineFault.{LineFault}
use Rattle.log_check.specs.declared.line_fault.LineFault.TheVariants.{NoSizes, NoLineFeed, TooLong, SizesAgain, StepFirst}
use Rattle.log_check.specs.declared.line_fault.LineFault.TheVariants.{ByteOrderMark, Gzip, WideText, CarriageReturn, NoLine}
use Rattle.log_check.specs.declared.verdict.IllegalStep.{IllegalStep}
use Rattle.log_check.specs.declared.verdict.LogEnd.{LogEnd}
use Rattle.log_check.specs.declared.verdict.LogVerdict.{LogVerdict}
use Rattle.log_check.specs.declared.verdict.LogVerdict.TheVariants.{Legal, NotLegal, LeftOut, BadLine}
use Rattle.log_check.specs.Ends.{IsEnd, free_count}

-- the text is that of a log with a legal run
pub record IsLegalLog (text : List ℕ) : Type 0 where
  pub log : WholeLog
  pub is : IsLog text log
  pub legal : IsLegalRun log.zone log.run

-- The text is that of a legal run of this many steps, and each beginning of it that leaves the lock free keeps the
-- promise. The lock is free after this many steps, and the run leaves this at its end.
pub record IsPromisedLog (text : List ℕ) (steps free : ℕ) (end : LogEnd) : Type 0 where
  pub log : WholeLog
  pub is : IsLog text log
  pub count : steps ≡ length log.run
  pub free_is : free ≡ free_count log.zone log.run
  pub end_is : IsEnd (state_of log.zone log.run) end
  pub legal : IsLegalRun log.zone log.run
  pub promise : AlwaysKeepsPromise log.zone log.run

-- the first lines of the text, up to that of the step, are a log; its last step is its first whose answer isn't
-- allowed, and `expected` is allowed there, for the reason
pub record BreaksRules (text : List ℕ) (illegal : IllegalStep) : Type 0 where
  pub front : List ℕ
  pub rest : List ℕ
  pub parts : text ≡ front ++ rest
  pub log : WholeLog
  pub is : IsLog front log
  pub line_is : illegal.line ≡ length is.texts
  pub step_is : illegal.step ≡ length log.run
  pub first : IsFirstIllegal log.zone log.run (illegal.step - 1) illegal.expected
  pub why : IsReason (state_of log.zone (take (illegal.step - 1) log.run)) first.step first.answer illegal.expected
      illegal.reason

-- ---- all steps that aren't legal

-- how far a log was read: so many lines, so many steps, and the state that the legal ones of them made
pub record Reached : Type 0 where
  pub lines : ℕ
  pub steps : ℕ
  pub state : State

-- one line more, without a step
abbrev pub line_on : Reached → Reached
line_on at = record at { lines = at.lines + 1 }

-- one line more, with a step that leads to this state
abbrev pub step_on : Reached → State → Reached
step_on at s = record { lines = at.lines + 1; steps = at.steps + 1; state = s }

-- this is the next step, and isn't legal as answered; `expected` is allowed there, for the reason
pub record IsIllegalAt (at : Reached) (step : Step) (answer : Answer) (illegal : IllegalStep) : Type 0 where
  pub line_is : illegal.line ≡ at.lines + 1
  pub step_is : illegal.step ≡ at.steps + 1
  pub denied : ¬ Allows at.state step.seat step.action answer
  pub allowed : Allows at.state step.seat step.action illegal.expected
  pub why : IsReason at.state step answer illegal.expected illegal.reason

-- The steps on these lines are made one after another, and lead from `at` to `end`. Each that isn't legal in the state
-- that the legal ones before it made is left out, and these are all that are.
abbrev pub LeavesOut : Reached → List LogLine → List IllegalStep → Reached → Type 0
LeavesOut at [] left end = (left ≡ []) × (end ≡ at)
LeavesOut at (kinds.Step step answer ∷ lines) left end =
    (Allows at.state step.seat step.action answer
    × LeavesOut (step_on at (after at.state step.seat step.action answer)) lines left end)
    ⊎ ((illegal : IllegalStep) × (others : List IllegalStep) × (left ≡ illegal ∷ others)
    × IsIllegalAt at step answer illegal × LeavesOut (step_on at at.state) lines others end)
LeavesOut at (line ∷ lines) left end = LeavesOut (line_on at) lines left end

-- nothing was read of a log of this zone
abbrev pub at_start : Zone → Reached
at_start zone = record { lines = 0; steps = 0; state = at_boot zone }

-- how many of the steps that aren't legal are named
abbrev pub most_named : ℕ
most_named = 1000

-- The text is that of a log of so many steps. So many of these aren't legal, each in the state that the legal ones
-- before it made, and these are the first of them. So the log isn't legal.
pub record NamesLeftOut (text : List ℕ) (steps count : ℕ) (first : List IllegalStep) : Type 0 where
  pub log : WholeLog
  pub is : IsLog text log
  pub steps_are : steps ≡ length log.run
  pub left : List IllegalStep
  pub end : Reached
  pub leaves : LeavesOut (at_start log.zone) is.lines left end
  pub count_is : count ≡ length left
  pub first_are : first ≡ take most_named left
  pub not_legal : ¬ IsLegalRun log.zone log.run

-- ---- a bad line

-- the text begins with this line, without its line feed
pub record BeginsWith (line text : List ℕ) : Type 0 where
  pub more : List ℕ
  pub no_feed : All (λ b. b ≢ 10) line
  pub parts : text ≡ line ++ 10 ∷ more

-- the line may not come after these lines, for this reason: one of them gave the sizes, or none did
abbrev pub IsMisplaced : LineFault → List LogLine → LogLine → Type 0
IsMisplaced SizesAgain lines (kinds.Zone frames cpus groups) = filter says_something lines ≢ []
IsMisplaced StepFirst lines (kinds.Step step answer) = filter says_something lines ≡ []
IsMisplaced fault lines line = ⊥

-- the text begins with the byte order mark of UTF-8 (RFC 3629, section 6)
abbrev pub is_marked : List ℕ → Bool
is_marked text = starts_with (λ a b. a == b) text (239 ∷ 187 ∷ 191 ∷ [])

-- the text begins as a file of gzip does (RFC 1952, section 2.3.1)
abbrev pub begins_as_gzip : List ℕ → Bool
begins_as_gzip text = starts_with (λ a b. a == b) text (31 ∷ 139 ∷ [])

-- the text has a byte 0, as the letters of UTF-16 have
abbrev pub is_wide : List ℕ → Bool
is_wide text = list_any (λ b. b == 0) text

-- the text ends with a carriage return
abbrev pub is_returned : List ℕ → Bool
is_returned text = option_map_or (λ b. b == 13) (slice_get text (length text - 1)) false

-- why a text that is that of no line is none
abbrev pub fault_of : List ℕ → LineFault
fault_of text =
    if is_marked text then ByteOrderMark
    else if begins_as_gzip text then Gzip
    else if is_wide text then WideText
    else if is_returned text then CarriageReturn
    else NoLine

-- the text of the line that comes next is that of no line, for this reason
abbrev pub IsNoLine : LineFault → List ℕ → Type 0
IsNoLine fault rest = (line : List ℕ) × BeginsWith line rest × ((other : LogLine) → ¬ IsLogLineText line other)
    × (fault ≡ fault_of line)

-- why a log that begins with these lines doesn't go on with the rest of the text
abbrev pub IsWhy : LineFault → List LogLine → List ℕ → Type 0
IsWhy NoSizes lines rest = (rest ≡ []) × (filter says_something lines ≡ [])
IsWhy NoLineFeed lines rest = (rest ≢ []) × All (λ b. b ≢ 10) rest
IsWhy TooLong lines rest = (line : List ℕ) × (more : List ℕ) × (rest ≡ line ++ more) × All (λ b. b ≢ 10) line
    × (longest_log_line < length line)
IsWhy ByteOrderMark lines rest = IsNoLine ByteOrderMark rest
IsWhy Gzip lines rest = IsNoLine Gzip rest
IsWhy WideText lines rest = IsNoLine WideText rest
IsWhy CarriageReturn lines rest = IsNoLine CarriageReturn rest
IsWhy NoLine lines rest = IsNoLine NoLine rest
IsWhy fault lines rest = (line : List ℕ) × (other : LogLine) × BeginsWith line rest × IsLogLineText line other
    × IsMisplaced fault lines other

-- this line is the first that no log continues with, and why
pub record IsBadLine (text : List ℕ) (line : ℕ) (fault : LineFault) : Type 0 where
  pub first : IsFirstBadLogLine text line
  pub why : IsWhy fault first.lines first.rest

-- ---- the verdict

-- what a check says of the text is true; with `all` it names each step that isn't legal, and else the first
abbrev pub IsLogVerdict : (all : Bool) → List ℕ → LogVerdict → Type 0
IsLogVerdict all text (Legal steps free end) = IsPromisedLog text steps free end
IsLogVerdict all text (NotLegal illegal) = (all ≡ false) × BreaksRules text illegal
IsLogVerdict all text (LeftOut steps count first) = (all ≡ true) × NamesLeftOut text steps count first.items
IsLogVerdict all text (BadLine line fault) = IsBadLine text line fault

-- whether the log is a legal run
abbrev pub says_legal : LogVerdict → Bool
says_legal (Legal steps free end) = true
says_legal verdict = false
