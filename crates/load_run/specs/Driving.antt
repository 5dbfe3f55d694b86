-- What a run of the program promises, by the status that it ends with.
use Rattle.std.specs.Prelude.{◌≡◌, ◌⊎◌, ℕ, ◌≤◌, List, Option, None, Some, Result, Vec, IfErr, IfOk, IfSome, IsSome, OnOk}
use Rattle.load_options.specs.declared.task.Options.{Options}
use Rattle.load_options.specs.declared.task.Task.{Task}
use Rattle.load_options.specs.declared.task.Task.TheVariants.{Replay, Steps, Run, Check, Lint, Serve, ServeSteps, Version}
use Rattle.line_server.specs.declared.form.SessionForm.TheVariants as session
use Rattle.load_run.specs.declared.fault.ProgramFault.{ProgramFault}
use Rattle.load_run.specs.Answers.{IsAnswered, IsWritten}
use Rattle.load_run.specs.Causes.{FailsAtWork, HasCause, IsMisused, Written}
use Rattle.load_run.specs.Checks.{Checks}
use Rattle.load_run.specs.Lints.{Lints}
use Rattle.load_run.specs.Sessions.{SessionAsked}
use Rattle.load_run.specs.Versions.{WritesVersion}

-- What the options that are asked for, if any, and an input lead to: answers or a fault. If the input's bytes are
-- known, these are the answers to them, or the fault has its cause.
pub record AnswersTo {Z : Type 0} (asked : Option Options) (input : Option (List ℕ))
    (result : Result (Vec ℕ Z) ProgramFault) : Type 0 where
  pub is_asked : OnOk result (IsSome asked)
  pub answered : IfOk result (λ answers. IfSome input (IsAnswered asked answers.items))
  pub cause : IfErr result (λ fault. IfSome input (HasCause asked fault))

-- the status of answers that are written: 0, or 3 if they are judged strictly
abbrev pub IsAnsweredStatus : ℕ → Type 0
IsAnsweredStatus status = (status ≡ 0) ⊎ (status ≡ 3)

-- The program ran on a script, and ended with at most 3. With 0 or 3, options are asked for, no fault is written, and
-- the output got the answers to the input, by which the status is 0 or 3. With 1, it failed at its work. With 2, words,
-- script or sizes are wrong, and nothing is written to the output. The answers and the cause of a fault are known if
-- the input's bytes are.
pub record DrivesScript (asked : Option Options) (input : Option (List ℕ)) (before after : Written)
    (status : ℕ) : Type 0 where
  pub status_at_most : status ≤ 3
  pub is_asked : IsAnsweredStatus status → IsSome asked
  pub silent : IsAnsweredStatus status → after.faults ≡ before.faults
  pub answered : IsAnsweredStatus status → IfSome input (IsWritten asked status before.output after.output)
  pub fails : status ≡ 1 → IfSome input (FailsAtWork asked before after)
  pub no_output : status ≡ 2 → after.output ≡ before.output
  pub misused : status ≡ 2 → IfSome input (IsMisused asked before.faults after.faults)

-- a script was linted for the sizes that are asked for
pub record LintsAsked (asked : Option Options) (input : Option (List ℕ)) (before after : Written) (status : ℕ)
    : Type 0 where
  pub options : Options
  pub is_asked : asked ≡ Some options
  pub lints : Lints options.sizes input before after status

-- the program ran for this task, which is asked for
abbrev pub DrivesTask : Task → (asked : Option Options) (input : Option (List ℕ)) (before after : Written) (status : ℕ)
    → Type 0
DrivesTask (Replay is_explained is_checked) asked input before after status = DrivesScript asked input before after
    status
DrivesTask Steps asked input before after status = DrivesScript asked input before after status
DrivesTask Run asked input before after status = DrivesScript asked input before after status
DrivesTask (Check is_all) asked input before after status = Checks is_all input before after status
DrivesTask Lint asked input before after status = LintsAsked asked input before after status
DrivesTask (Serve is_explained) asked input before after status =
    SessionAsked (session.Answers is_explained) asked input before after status
DrivesTask ServeSteps asked input before after status = SessionAsked session.Steps asked input before after status
DrivesTask Version asked input before after status = WritesVersion before after status

-- The program ran for the options that are asked for, if any. If none are, that is the fault of `DrivesScript`
abbrev pub Drives : (asked : Option Options) (input : Option (List ℕ)) (before after : Written) (status : ℕ) → Type 0
Drives None input before after status = DrivesScript None input before after status
Drives (Some options) input before after status = DrivesTask options.task (Some options) input before after status
