-- What a session promises, by the status that it ends with.
use Rattle.std.specs.Prelude.{◌≡◌, ◌⊎◌, ℕ, ◌≤◌, Bool, List, [], ◌++◌, Option, Some, ⊤}
use Rattle.std.specs.Io.KnownBytes.{Appends}
use Rattle.zone_blocks.specs.declared.config.Config.{Config}
use Rattle.zone_blocks.specs.Config.{IsValidConfig}
use Rattle.boot_words.specs.Words.{Words}
use Rattle.step_rules.specs.After.{Run}
use Rattle.boot_words.specs.{zone_of_boot, KnownTable}
use Rattle.mem_machine.specs.{AgreesWithRun}
use Rattle.script_replay.specs.Lines.{SystemState}
use Rattle.line_server.specs.declared.fault.ServeFault.{ServeFault}
use Rattle.line_server.specs.declared.fault.ServeFault.TheVariants as serve
use Rattle.line_server.specs.declared.form.SessionForm.{SessionForm}
use Rattle.line_server.specs.declared.form.SessionForm.TheVariants.{Answers, Steps}
use Rattle.line_server.specs.{session_terms, TurnsKeepPromise, steps_of_turns, FailsSession, ServesSession}
use Rattle.load_options.specs.declared.fault.WordsFault.TheVariants as words
use Rattle.load_options.specs.declared.task.Options.{Options}
use Rattle.load_run.specs.declared.fault.ProgramFault.{ProgramFault}
use Rattle.load_run.specs.declared.fault.ProgramFault.TheVariants as kinds
use Rattle.load_run.specs.Starting.{IsNewBootState}
use Rattle.load_run.specs.Causes.{Written}
use Rattle.load_run.specs.Ending.{IsWholeRun, WritesEnd, last_words}
use Rattle.load_run.specs.Fault.{fault_text}
use Rattle.load_run.specs.Logs.{LogsEnd, log_head_text}
use Rattle.line_server.specs.Writing.{AppendsBeginning}

-- a boot ended from this state after a session of this form, and this is what is written about that
abbrev pub EndsInForm : SessionForm → KnownTable → (is_audited : Bool) → (before : SystemState)
    → (text : List ℕ) → Type 0
EndsInForm (Answers is_explained) frames is_audited before text = WritesEnd frames is_audited before text
EndsInForm Steps frames is_audited before text = LogsEnd frames before text

-- the steps of the end of a session of this form
abbrev pub steps_of_end : (form : SessionForm) (frames : KnownTable) (is_audited : Bool)
    (before : SystemState) (text : List ℕ) → EndsInForm form frames is_audited before text → Run
steps_of_end (Answers is_explained) frames is_audited before text ends = ends.ends.leaves.steps
steps_of_end Steps frames is_audited before text ends = ends.ends.leaves.steps

-- the words of the boot's table after a session of this form, when it was closed
abbrev pub words_of_end : (form : SessionForm) (frames : KnownTable) (is_audited : Bool)
    (before : SystemState) (text : List ℕ) → EndsInForm form frames is_audited before text → Words
words_of_end (Answers is_explained) frames is_audited before text ends = last_words ends.ends.closes
words_of_end Steps frames is_audited before text ends = last_words ends.ends.closes

-- A new boot served a session on an input, and ended. `middle` is what the output holds after the session, and `ending`
-- the text of the end, if there is one. `whole` is all steps of the lines that were served, and then of the end, from the
-- boot on. After each line that was served the promise holds of what the machine and the CPUs show, and each group's peak
-- and event counts are those of the run so far, as the ledger of the boot is that of a run without steps.
pub record EndsSession (options : Options) (form : SessionForm) (input before middle : Option (List ℕ))
    (ending : List ℕ) : Type 0 where
  pub frames : KnownTable
  pub start : SystemState
  pub end : SystemState
  pub first : IsNewBootState options.sizes frames start
  pub session : ServesSession (session_terms frames form) options.sizes input start end before middle
  pub history : TurnsKeepPromise (session_terms frames form) options.sizes 1 session.turns start end
      session.holds.answers []
  pub agrees : AgreesWithRun frames [] start.locked.machine.ledger
  pub ends : EndsInForm form frames options.is_audited end ending
  pub whole : Run
  pub whole_is : whole
      ≡ steps_of_turns (session_terms frames form) options.sizes 1 session.turns start end session.holds.answers
      ++ steps_of_end form frames options.is_audited end ending ends
  pub is_whole : IsWholeRun (zone_of_boot frames) (words_of_end form frames options.is_audited end ending ends) whole

-- a session ended, and all of the text of its end was written after its answers
pub record ServesInput (options : Options) (form : SessionForm) (input before after : Option (List ℕ)) : Type 0 where
  pub middle : Option (List ℕ)
  pub ending : List ℕ
  pub ends : EndsSession options form input before middle ending
  pub written : Appends middle after ending

-- a session ended, and a beginning of the text of its end was written after its answers
pub record BeginsEnding (options : Options) (form : SessionForm) (input before after : Option (List ℕ)) : Type 0 where
  pub middle : Option (List ℕ)
  pub ending : List ℕ
  pub ends : EndsSession options form input before middle ending
  pub begun : AppendsBeginning middle after ending

-- the same fault of the program
abbrev pub IsSameFault : ServeFault → ProgramFault → Type 0
IsSameFault serve.Input kinds.Input = ⊤
IsSameFault serve.Output kinds.Output = ⊤
IsSameFault serve.NoMemory (kinds.NoMemory error) = ⊤
IsSameFault why fault = ⊥

-- a session on a new boot failed with this fault
pub record FailsOnBoot (options : Options) (form : SessionForm) (input before after : Option (List ℕ))
    (fault : ProgramFault) : Type 0 where
  pub frames : KnownTable
  pub start : SystemState
  pub end : SystemState
  pub first : IsNewBootState options.sizes frames start
  pub why : ServeFault
  pub same : IsSameFault why fault
  pub fails : FailsSession (session_terms frames form) options.sizes input start end before after why

-- a fault at work
abbrev pub IsWorkFault : ProgramFault → Type 0
IsWorkFault kinds.Input = ⊤
IsWorkFault kinds.Output = ⊤
IsWorkFault (kinds.NoMemory error) = ⊤
IsWorkFault (kinds.Words (words.NoMemory error)) = ⊤
IsWorkFault fault = ⊥

-- a boot took these sizes, if the fault came after the words
abbrev pub IsOfValid : Config → ProgramFault → Type 0
IsOfValid sizes (kinds.Words fault) = ⊤
IsOfValid sizes fault = IsValidConfig sizes

-- What a fault at work leaves: nothing is written, and no line was read; or the session failed; or it ended, and the
-- text of its end wasn't written whole. Sizes that a boot refuses have no such fault.
pub record LeavesSession (options : Options) (form : SessionForm) (input before after : Option (List ℕ))
    (fault : ProgramFault) : Type 0 where
  pub at_work : IsWorkFault fault
  pub valid : IsOfValid options.sizes fault
  pub left : (after ≡ before) ⊎ (FailsOnBoot options form input before after fault
      ⊎ BeginsEnding options form input before after)

-- the head was written: of a session that writes a log, the sizes
abbrev pub WritesHead : SessionForm → Config → (before after : Option (List ℕ)) → Type 0
WritesHead (Answers is_explained) sizes before after = after ≡ before
WritesHead Steps sizes before after = Appends before after (log_head_text sizes)

-- or a beginning of it
abbrev pub BeginsHead : SessionForm → Config → (before after : Option (List ℕ)) → Type 0
BeginsHead (Answers is_explained) sizes before after = after ≡ before
BeginsHead Steps sizes before after = AppendsBeginning before after (log_head_text sizes)

-- the head was written, and what holds then
pub record WithHead (options : Options) (form : SessionForm) (before : Option (List ℕ))
    (holds : Option (List ℕ) → Type 0) : Type 0 where
  pub headed : Option (List ℕ)
  pub head : WritesHead form options.sizes before headed
  pub then : holds headed

-- a session had its head, and ended
abbrev pub ServesWithHead : (options : Options) (form : SessionForm) (input before after : Option (List ℕ)) → Type 0
ServesWithHead options form input before after =
    WithHead options form before (λ headed. ServesInput options form input headed after)

-- What a fault at work leaves of a session with its head: nothing is written; or a beginning of the head, and no line
-- was read; or the head, and then what `LeavesSession` says.
pub record LeavesWithHead (options : Options) (form : SessionForm) (input before after : Option (List ℕ))
    (fault : ProgramFault) : Type 0 where
  pub at_work : IsWorkFault fault
  pub valid : IsOfValid options.sizes fault
  pub left : (after ≡ before) ⊎ (BeginsHead form options.sizes before after
      ⊎ WithHead options form before (λ headed. LeavesSession options form input headed after fault))

-- Why there is no session, or no more of it: a boot refuses the sizes, and nothing is written; or a fault at work.
abbrev pub StopsSession : (options : Options) (form : SessionForm) (input before after : Option (List ℕ))
    → ProgramFault → Type 0
StopsSession options form input before after kinds.BadConfig = (after ≡ before) × ¬ IsValidConfig options.sizes
StopsSession options form input before after fault = LeavesWithHead options form input before after fault

-- a session failed at its work; the fault writer got why, as far as it took it
pub record FailsToServe (options : Options) (form : SessionForm) (input : Option (List ℕ)) (before after : Written)
    : Type 0 where
  pub fault : ProgramFault
  pub left : LeavesWithHead options form input before.output after.output fault
  pub told : AppendsBeginning before.faults after.faults (fault_text fault)

-- a boot refuses the sizes, and that was told, as far as the writer took it
pub record RefusesSizes (options : Options) (before after : Option (List ℕ)) : Type 0 where
  pub refused : ¬ IsValidConfig options.sizes
  pub told : AppendsBeginning before after (fault_text kinds.BadConfig)

-- A session on an input ended with at most 2. With 0 it ended by `quit` or at the end of the input, and no fault is
-- reported. With 1 it failed at its work. With 2 the sizes are refused, and nothing is written to the output.
pub record DrivesSession (options : Options) (form : SessionForm) (input : Option (List ℕ)) (before after : Written)
    (status : ℕ) : Type 0 where
  pub status_at_most : status ≤ 2
  pub silent : status ≡ 0 → after.faults ≡ before.faults
  pub served : status ≡ 0 → ServesWithHead options form input before.output after.output
  pub fails : status ≡ 1 → FailsToServe options form input before after
  pub no_output : status ≡ 2 → after.output ≡ before.output
  pub refused : status ≡ 2 → RefusesSizes options before.faults after.faults

-- a session was held for the options that are asked for
pub record SessionAsked (form : SessionForm) (asked : Option Options) (input : Option (List ℕ))
    (before after : Written)
    (status : ℕ) : Type 0 where
  pub options : Options
  pub is_asked : asked ≡ Some options
  pub drives : DrivesSession options form input before after status
