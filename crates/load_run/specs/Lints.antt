-- What a lint of a script promises, by the status that it ends with.
use Rattle.std.specs.Prelude.{◌≡◌, ◌⊎◌, ℕ, ◌≤◌, Bool, true, false, List, [], ◌++◌, Option, IfSome, codes, ⊤}
use Rattle.std.specs.Io.KnownBytes.{Appends}
use Rattle.std.specs.List.{flat_map}
use Rattle.zone_blocks.specs.declared.config.Config.{Config}
use Rattle.script_lint.specs.{IsLinted, AreRefused, refused_line_text, finding_text, sizes_text}
use Rattle.script_lint.specs.declared.finding.Finding.{Finding}
use Rattle.script_lint.specs.declared.refused.RefusedLine.{RefusedLine}
use Rattle.load_options.specs.declared.fault.WordsFault.TheVariants as words
use Rattle.load_run.specs.declared.fault.ProgramFault.{ProgramFault}
use Rattle.load_run.specs.declared.fault.ProgramFault.TheVariants.{Words, Input, Output, NoMemory}
use Rattle.load_run.specs.Answers.{bytes_read}
use Rattle.load_run.specs.Causes.{Written}
use Rattle.load_run.specs.Fault.{fault_text}
use Rattle.line_server.specs.Writing.{AppendsBeginning}

-- no line is bad, and `high` is at least `batch`
pub record IsClean (sizes : Config) (findings : List Finding) : Type 0 where
  pub none : findings ≡ []
  pub sizes_fit : sizes.batch ≤ sizes.high

-- the text says which lines of the script are bad, which good ones are refused, and whether the sizes are bad; it is
-- clean exactly if no line and no size is bad
pub record IsLintText (sizes : Config) (script text : List ℕ) (is_clean : Bool) : Type 0 where
  pub findings : List Finding
  pub linted : IsLinted sizes script findings
  pub refused : List RefusedLine
  pub are_refused : AreRefused sizes script refused
  pub text_is : text ≡ (flat_map (finding_text (codes "-") sizes) findings
      ++ flat_map (refused_line_text (codes "-")) refused) ++ sizes_text sizes
  pub clean : is_clean ≡ true → IsClean sizes findings
  pub found : is_clean ≡ false → ¬ IsClean sizes findings

-- the status of a lint that was written
abbrev pub lint_status : Bool → ℕ
lint_status true = 0
lint_status false = 1

-- no line that is read is bad, and what is written only says which ones are refused
pub record ReportsNothing (sizes : Config) (before after : Option (List ℕ)) (bytes : List ℕ) : Type 0 where
  pub text : List ℕ
  pub lint : IsLintText sizes (bytes_read bytes) text true
  pub written : Appends before after text

-- a line that is read is bad, or the sizes are, and what is found is written; no fault is reported
pub record ReportsFindings (sizes : Config) (before after : Written) (bytes : List ℕ) : Type 0 where
  pub text : List ℕ
  pub lint : IsLintText sizes (bytes_read bytes) text false
  pub written : Appends before.output after.output text
  pub silent : after.faults ≡ before.faults

-- the output got a beginning of what is found
pub record BeginsFindings (sizes : Config) (before after : Option (List ℕ)) (bytes : List ℕ) : Type 0 where
  pub text : List ℕ
  pub is_clean : Bool
  pub lint : IsLintText sizes (bytes_read bytes) text is_clean
  pub begun : AppendsBeginning before after text

-- a fault before anything is written
abbrev pub IsEarlyFault : ProgramFault → Type 0
IsEarlyFault Input = ⊤
IsEarlyFault (NoMemory error) = ⊤
IsEarlyFault (Words (words.NoMemory error)) = ⊤
IsEarlyFault fault = ⊥

-- what a fault leaves in the output: a beginning of what is found if the output failed, else nothing
abbrev pub LeavesFindings : Config → ProgramFault → (before after : Option (List ℕ)) (bytes : List ℕ) → Type 0
LeavesFindings sizes Output before after bytes = BeginsFindings sizes before after bytes
LeavesFindings sizes fault before after bytes = IsEarlyFault fault × (after ≡ before)

-- the lint failed at its work; the fault writer got why, as far as it took it
pub record FailsToLint (sizes : Config) (before after : Written) (bytes : List ℕ) : Type 0 where
  pub fault : ProgramFault
  pub left : LeavesFindings sizes fault before.output after.output bytes
  pub told : AppendsBeginning before.faults after.faults (fault_text fault)

-- A script was linted, and the program ended with 0 or 1. With 0 no line is bad, and no fault is reported. With 1 a line
-- is bad, or the sizes are, or the lint failed. What is found is said if the input's bytes are known
pub record Lints (sizes : Config) (input : Option (List ℕ)) (before after : Written) (status : ℕ) : Type 0 where
  pub status_at_most : status ≤ 1
  pub silent : status ≡ 0 → after.faults ≡ before.faults
  pub clean : status ≡ 0 → IfSome input (ReportsNothing sizes before.output after.output)
  pub found : status ≡ 1
      → IfSome input (λ bytes. ReportsFindings sizes before after bytes ⊎ FailsToLint sizes before after bytes)
