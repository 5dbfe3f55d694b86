-- What a check promises, from what the log is and what the writers took. Serves `drive_check`, `drive`, `drive_task`.
use Rattle.std.proofs.Common.{◌≡◌, ◌∙◌, ◌↔◌, ℕ, Bool, false, List, Option, None, Some, IfSome, IsTrue, ap, arith, inl, inr, refl, subst, sym}
use Rattle.std.proofs.lemmas.Bool.{false≢true}
use Rattle.std.specs.Prelude.{◌⊎◌, is_some}
use Rattle.std.specs.Io.KnownBytes.{Appends}
use Rattle.std.proofs.KnownBytes.{Appends-nil}
use Rattle.log_check.specs.declared.line_fault.LineFault.{LineFault}
use Rattle.log_check.specs.declared.verdict.LogEnd.{LogEnd}
use Rattle.log_check.specs.declared.verdict.LogVerdict.{LogVerdict}
use Rattle.log_check.specs.declared.verdict.LogVerdict.TheVariants.{BadLine, Legal, LeftOut, NotLegal}
use Rattle.log_check.specs.{IsLegalLog, IsLogVerdict, says_legal, verdict_text}
use Rattle.load_options.specs.declared.fault.WordsFault.TheVariants as words
use Rattle.load_options.specs.declared.task.Options.{Options}
use Rattle.load_options.specs.declared.task.Task.{Task}
use Rattle.load_options.specs.declared.task.Task.TheVariants.{Check, Lint, Replay, Run, Serve, ServeSteps, Steps, Version}
use Rattle.line_server.specs.declared.form.SessionForm.{SessionForm}
use Rattle.line_server.specs.declared.form.SessionForm.TheVariants as session
use Rattle.load_run.specs.declared.fault.ProgramFault.{ProgramFault}
use Rattle.load_run.specs.declared.fault.ProgramFault.TheVariants.{BadLogLine, Input, NoMemory, Output, Words}
use Rattle.load_run.specs.{IsOnScript, Written, written, FailsToCheck, HasStatus, IsLogVerdictOf, LeavesLine, LeavesVerdict, ReportsBadLine}
use Rattle.load_run.specs.{ReportsLegal, ReportsNotLegal, Drives, DrivesScript, DrivesTask, SessionAsked, IsReadFault, IsWordsFault, fault_text}
use Rattle.load_run.specs.{fault_status_of}
use Rattle.load_run.specs.Checks.{Checks}
use Rattle.line_server.specs.Writing.{AppendsBeginning}
use Rattle.load_run.proofs.Causing.{words_cause}
use Rattle.load_run.proofs.Driving.{drives_badly}
use Rattle.load_run.proofs.Reporting.{everywhere, lints_early}
use Rattle.load_run.proofs.SessionEnds.{drives_failed}
use Rattle.load_run.proofs.Telling.{version_failed}

-- both are known of the input
pub verdict_of : (all : Bool) (input : Option (List ℕ)) (end : LogVerdict) → IfSome input (λ text. IsLogVerdict all text end)
    → IfSome input (λ text. IsTrue (says_legal end) ↔ IsLegalLog text) → IsLogVerdictOf all input end
verdict_of all None end is exact = tt
verdict_of all (Some text) end is exact = (is, exact)

-- the log is legal, and that was written
checks_legal : (all : Bool) (input before after faults : Option (List ℕ)) (steps free : ℕ) (end : LogEnd) → IsLogVerdictOf all input (Legal steps free end)
    → Appends before after (verdict_text (Legal steps free end)) → Checks all input (written before faults) (written after faults) 0
checks_legal all input before after faults steps free end is whole = record {
  status_at_most = omega arith;
  silent = λ zero. refl;
  legal = λ zero. go input is;
  not_legal = λ one. absurd (omega (arith, one));
  no_output = λ two. absurd (omega (arith, two));
  bad_line = λ two. absurd (omega (arith, two));
}
  where
    go : (bytes : Option (List ℕ)) → IsLogVerdictOf all bytes (Legal steps free end) → IfSome bytes (ReportsLegal before after)
    go None is = tt
    go (Some text) is = record { steps = steps; free = free; end = end; keeps = is.0; written = whole }

-- steps are not legal, and that was written
checks_not_legal : (all : Bool) (input before after faults : Option (List ℕ)) (end : LogVerdict) → IsLogVerdictOf all input end → HasStatus end 1
    → says_legal end ≡ false → Appends before after (verdict_text end) → Checks all input (written before faults) (written after faults) 1
checks_not_legal all input before after faults end is names denied whole = record {
  status_at_most = omega arith;
  silent = λ zero. refl;
  legal = λ zero. absurd (omega (arith, zero));
  not_legal = λ one. go input is;
  no_output = λ two. absurd (omega (arith, two));
  bad_line = λ two. absurd (omega (arith, two));
}
  where
    go : (bytes : Option (List ℕ)) → IsLogVerdictOf all bytes end
        → IfSome bytes (λ text. ReportsNotLegal all (written before faults) (written after faults) text ⊎ FailsToCheck all (written before faults) (written after faults) text)
    go None is = tt
    go (Some text) is = inl (record {
      verdict = end;
      is = is.0;
      names = names;
      not_legal = λ legal. false≢true (sym denied ∙ is.1.1 legal);
      written = whole;
      silent = refl;
    })

-- what was to be written was, whole
pub checks_written : (all : Bool) (input before after faults : Option (List ℕ)) (end : LogVerdict) (status : ℕ) → IsLogVerdictOf all input end
    → HasStatus end status → Appends before after (verdict_text end) → Checks all input (written before faults) (written after faults) status
checks_written all input before after faults (Legal steps free end) status is verdict whole =
    subst (Checks all input (written before faults) (written after faults)) (sym verdict) (checks_legal all input before after faults steps free end is whole)
checks_written all input before after faults (NotLegal illegal) status is verdict whole =
    subst (Checks all input (written before faults) (written after faults)) (sym verdict)
    (checks_not_legal all input before after faults (NotLegal illegal) is refl refl whole)
checks_written all input before after faults (LeftOut steps count first) status is verdict whole =
    subst (Checks all input (written before faults) (written after faults)) (sym verdict)
    (checks_not_legal all input before after faults (LeftOut steps count first) is refl refl whole)
checks_written all input before after faults (BadLine line reason) status is verdict whole = absurd verdict

-- the input is no log, and that was told
pub checks_bad_line : (all : Bool) (input output faults faults_after : Option (List ℕ)) (line : ℕ) (reason : LineFault) (status : ℕ)
    → IsLogVerdictOf all input (BadLine line reason) → status ≡ 2 → AppendsBeginning faults faults_after (fault_text (BadLogLine line reason))
    → Checks all input (written output faults) (written output faults_after) status
checks_bad_line all input output faults faults_after line reason status is ended told = record {
  status_at_most = omega (arith, ended);
  silent = λ zero. absurd (omega (arith, ended, zero));
  legal = λ zero. absurd (omega (arith, ended, zero));
  not_legal = λ one. absurd (omega (arith, ended, one));
  no_output = λ two. refl;
  bad_line = λ two. go input is;
}
  where
    go : (bytes : Option (List ℕ)) → IsLogVerdictOf all bytes (BadLine line reason) → IfSome bytes (ReportsBadLine faults faults_after)
    go None is = tt
    go (Some text) is = record { line = line; reason = reason; first = is.0; not_legal = λ legal. false≢true (is.1.1 legal); told = told }

-- the check failed, and that was told
checks_failed : (all : Bool) (input before after faults faults_after : Option (List ℕ)) (fault : ProgramFault) (status : ℕ)
    → IfSome input (LeavesVerdict all fault before after) → status ≡ 1 → AppendsBeginning faults faults_after (fault_text fault)
    → Checks all input (written before faults) (written after faults_after) status
checks_failed all input before after faults faults_after fault status left ended told = record {
  status_at_most = omega (arith, ended);
  silent = λ zero. absurd (omega (arith, ended, zero));
  legal = λ zero. absurd (omega (arith, ended, zero));
  not_legal = λ one. go input left;
  no_output = λ two. absurd (omega (arith, ended, two));
  bad_line = λ two. absurd (omega (arith, ended, two));
}
  where
    go : (bytes : Option (List ℕ)) → IfSome bytes (LeavesVerdict all fault before after)
        → IfSome bytes (λ text. ReportsNotLegal all (written before faults) (written after faults_after) text ⊎ FailsToCheck all (written before faults) (written after faults_after) text)
    go None left = tt
    go (Some text) left = inr (record { fault = fault; left = left; told = told })

-- it failed before anything was written
pub checks_early : (all : Bool) (input output faults faults_after : Option (List ℕ)) (fault : ProgramFault) (status : ℕ)
    → ((text : List ℕ) → LeavesVerdict all fault output output text) → status ≡ 1 → AppendsBeginning faults faults_after (fault_text fault)
    → Checks all input (written output faults) (written output faults_after) status
checks_early all input output faults faults_after fault status left ended told =
    checks_failed all input output output faults faults_after fault status (everywhere input (LeavesVerdict all fault output output) left) ended told

-- so with each fault that comes before anything is known of the log
pub checks_fault : (all : Bool) (input output faults faults_after : Option (List ℕ)) (fault : ProgramFault) (status : ℕ) → IsReadFault fault
    → status ≡ fault_status_of fault → AppendsBeginning faults faults_after (fault_text fault)
    → Checks all input (written output faults) (written output faults_after) status
checks_fault all input output faults faults_after Input status is ended told =
    checks_early all input output faults faults_after Input status (λ text. refl) ended told
checks_fault all input output faults faults_after (NoMemory e) status is ended told =
    checks_early all input output faults faults_after (NoMemory e) status (λ text. refl) ended told
checks_fault all input output faults faults_after fault status is ended told = absurd is

-- what was to be written wasn't, or not whole
pub checks_unwritten : (all : Bool) (input before after faults faults_after : Option (List ℕ)) (end : LogVerdict) (fault : ProgramFault) (status : ℕ) → IsLogVerdictOf all input end
    → LeavesLine (verdict_text end) before after fault → status ≡ fault_status_of fault → AppendsBeginning faults faults_after (fault_text fault)
    → Checks all input (written before faults) (written after faults_after) status
checks_unwritten all input before after faults faults_after end fault status is left ended told = go fault left ended told
  where
    begun : (bytes : Option (List ℕ)) → IsLogVerdictOf all bytes end → AppendsBeginning before after (verdict_text end) → IfSome bytes (LeavesVerdict all Output before after)
    begun None is begins = tt
    begun (Some text) is begins = record { verdict = end; is = is.0; begun = begins }

    go : (f : ProgramFault) → LeavesLine (verdict_text end) before after f → status ≡ fault_status_of f → AppendsBeginning faults faults_after (fault_text f)
        → Checks all input (written before faults) (written after faults_after) status
    go Output left ended told = checks_failed all input before after faults faults_after Output status (begun input is left) ended told
    go (NoMemory e) left ended told =
        checks_failed all input before after faults faults_after (NoMemory e) status (everywhere input (LeavesVerdict all (NoMemory e) before after) (λ text. left)) ended told
    go f left ended told = absurd left

-- ---- all tasks

-- the words ask for nothing, or memory ran out for them
pub drives_words : (asked : Option Options) (input output faults faults_after : Option (List ℕ)) (fault : ProgramFault) (status : ℕ)
    → IsWordsFault asked fault → status ≡ fault_status_of fault → AppendsBeginning faults faults_after (fault_text fault)
    → Drives asked input (written output faults) (written output faults_after) status
drives_words None input output faults faults_after fault status is ended told =
    drives_badly None input output faults faults_after fault status (words_cause None input fault is) ended told
drives_words (Some options) input output faults faults_after (Words (words.NoMemory e)) status is ended told = by_task options.task
  where
    fault : ProgramFault
    fault = Words (words.NoMemory e)

    on_script : DrivesScript (Some options) input (written output faults) (written output faults_after) status
    on_script = drives_badly (Some options) input output faults faults_after fault status (words_cause (Some options) input fault is) ended told

    in_session : (form : SessionForm) → SessionAsked form (Some options) input (written output faults) (written output faults_after) status
    in_session form = record {
      options = options;
      is_asked = refl;
      drives = drives_failed options form input output output faults faults_after fault status (record { at_work = tt; valid = tt; left = inl refl })
          ended told;
    }

    by_task : (task : Task) → DrivesTask task (Some options) input (written output faults) (written output faults_after) status
    by_task (Replay is_explained is_checked) = on_script
    by_task Run = on_script
    by_task Steps = on_script
    by_task (Check is_all) = checks_early is_all input output faults faults_after fault status (λ text. refl) ended told
    by_task Lint = record {
      options = options;
      is_asked = refl;
      lints = lints_early options.sizes input output faults faults_after fault status tt ended told;
    }
    by_task (Serve is_explained) = in_session (session.Answers is_explained)
    by_task ServeSteps = in_session session.Steps
    by_task Version = version_failed output output faults faults_after fault status refl (0, Appends-nil output) ended told
drives_words (Some options) input output faults faults_after (Words (words.BadWords text)) status is ended told = absurd (false≢true (sym (ap is_some is)))
drives_words (Some options) input output faults faults_after fault status is ended told = absurd is

-- what a task on a script promises
pub script_drives : (options : Options) (input : Option (List ℕ)) (before after : Written) (status : ℕ) → IsOnScript options.task
    → DrivesScript (Some options) input before after status → Drives (Some options) input before after status
script_drives options input before after status on_script drives = go options.task on_script
  where
    go : (task : Task) → IsOnScript task → DrivesTask task (Some options) input before after status
    go (Replay is_explained is_checked) on_script = drives
    go Run on_script = drives
    go Steps on_script = drives
    go task on_script = absurd on_script

-- what the options promise is what the words do that ask for them
pub asked_drives : (asked : Option Options) (options : Options) (input : Option (List ℕ)) (before after : Written) (status : ℕ)
    → asked ≡ Some options → Drives (Some options) input before after status → Drives asked input before after status
asked_drives asked options input before after status is drives =
    subst (λ (a : Option Options). Drives a input before after status) (sym is) drives
