-- What a check of a log promises, by the status that it ends with.
use Rattle.std.specs.Prelude.{◌≡◌, ◌⊎◌, ◌↔◌, ℕ, ◌≤◌, Bool, List, Option, IfSome, IsTrue}
use Rattle.std.specs.Io.KnownBytes.{Appends}
use Rattle.log_check.specs.declared.line_fault.LineFault.{LineFault}
use Rattle.log_check.specs.declared.verdict.LogEnd.{LogEnd}
use Rattle.log_check.specs.declared.verdict.LogVerdict.{LogVerdict}
use Rattle.log_check.specs.declared.verdict.LogVerdict.TheVariants.{BadLine, Legal, LeftOut, NotLegal}
use Rattle.log_check.specs.{IsBadLine, IsLegalLog, IsLogVerdict, IsPromisedLog, says_legal, verdict_text}
use Rattle.load_options.specs.declared.fault.WordsFault.TheVariants as words
use Rattle.load_run.specs.declared.fault.ProgramFault.{ProgramFault}
use Rattle.load_run.specs.declared.fault.ProgramFault.TheVariants.{Words, BadLogLine, Input, Output, NoMemory}
use Rattle.load_run.specs.Causes.{Written}
use Rattle.load_run.specs.Fault.{fault_text}
use Rattle.line_server.specs.Writing.{AppendsBeginning}

-- the verdict is that of a log, and ends with this status: 0 if the log is legal, 1 if it isn't
abbrev pub HasStatus : LogVerdict → ℕ → Type 0
HasStatus (Legal steps free end) status = status ≡ 0
HasStatus (NotLegal illegal) status = status ≡ 1
HasStatus (LeftOut steps count first) status = status ≡ 1
HasStatus (BadLine line reason) status = ⊥

-- the text is that of a legal run of so many steps, and the promise holds at each beginning of it that leaves the lock
-- free, which so many do; the run leaves this at its end, and the output got the lines that say so
pub record ReportsLegal (before after : Option (List ℕ)) (text : List ℕ) : Type 0 where
  pub steps : ℕ
  pub free : ℕ
  pub end : LogEnd
  pub keeps : IsPromisedLog text steps free end
  pub written : Appends before after (verdict_text (Legal steps free end))

-- The text is that of no legal run. The verdict names the first step that isn't legal, or, with `all`, each of them;
-- the output got it, and no fault is reported
pub record ReportsNotLegal (all : Bool) (before after : Written) (text : List ℕ) : Type 0 where
  pub verdict : LogVerdict
  pub is : IsLogVerdict all text verdict
  pub names : HasStatus verdict 1
  pub not_legal : ¬ IsLegalLog text
  pub written : Appends before.output after.output (verdict_text verdict)
  pub silent : after.faults ≡ before.faults

-- the text is that of no log: this line is the first bad one, for this reason; the fault writer got that, as far as it
-- took it
pub record ReportsBadLine (before after : Option (List ℕ)) (text : List ℕ) : Type 0 where
  pub line : ℕ
  pub reason : LineFault
  pub first : IsBadLine text line reason
  pub not_legal : ¬ IsLegalLog text
  pub told : AppendsBeginning before after (fault_text (BadLogLine line reason))

-- the output got a beginning of the lines that say what the text is
pub record BeginsVerdict (all : Bool) (before after : Option (List ℕ)) (text : List ℕ) : Type 0 where
  pub verdict : LogVerdict
  pub is : IsLogVerdict all text verdict
  pub begun : AppendsBeginning before after (verdict_text verdict)

-- what a check leaves in the output after a fault of its own: a beginning of its lines if the output failed, else
-- nothing; no other fault is one of a check
abbrev pub LeavesVerdict : (all : Bool) → ProgramFault → (before after : Option (List ℕ)) (text : List ℕ) → Type 0
LeavesVerdict all (Words (words.NoMemory error)) before after text = after ≡ before
LeavesVerdict all Input before after text = after ≡ before
LeavesVerdict all Output before after text = BeginsVerdict all before after text
LeavesVerdict all (NoMemory error) before after text = after ≡ before
LeavesVerdict all fault before after text = ⊥

-- the check failed at its work; the fault writer got why, as far as it took it
pub record FailsToCheck (all : Bool) (before after : Written) (text : List ℕ) : Type 0 where
  pub fault : ProgramFault
  pub left : LeavesVerdict all fault before.output after.output text
  pub told : AppendsBeginning before.faults after.faults (fault_text fault)

-- A log was checked, and the program ended with 0, 1 or 2. With 0 the log is a legal run, and no fault is reported;
-- with 1 it is none, or the check failed; with 2 it is no log, and nothing is written to the output. What the log is,
-- is said if the input's bytes are known
pub record Checks (all : Bool) (input : Option (List ℕ)) (before after : Written) (status : ℕ) : Type 0 where
  pub status_at_most : status ≤ 2
  pub silent : status ≡ 0 → after.faults ≡ before.faults
  pub legal : status ≡ 0 → IfSome input (ReportsLegal before.output after.output)
  pub not_legal : status ≡ 1
      → IfSome input (λ text. ReportsNotLegal all before after text ⊎ FailsToCheck all before after text)
  pub no_output : status ≡ 2 → after.output ≡ before.output
  pub bad_line : status ≡ 2 → IfSome input (ReportsBadLine before.faults after.faults)

-- ---- the parts of a check

-- the log is this, and it is called legal exactly if it is
abbrev pub IsLogVerdictOf : (all : Bool) → Option (List ℕ) → LogVerdict → Type 0
IsLogVerdictOf all input verdict =
    IfSome input (λ text. IsLogVerdict all text verdict × (IsTrue (says_legal verdict) ↔ IsLegalLog text))

-- what the output got of lines that weren't written whole: a beginning if the output failed, nothing if memory ran out
abbrev pub LeavesLine : List ℕ → (before after : Option (List ℕ)) → ProgramFault → Type 0
LeavesLine line before after Output = AppendsBeginning before after line
LeavesLine line before after (NoMemory error) = after ≡ before
LeavesLine line before after fault = ⊥
