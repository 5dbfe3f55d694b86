-- What a session promises, from how it ended. Serves `drive_serve`, `serve_on_boot`.
use Rattle.std.proofs.Common.{◌≡◌, ◌∙◌, ◌++◌, ℕ, Bool, List, [], Option, Result, Ok, Err, Vec, IfErr, IfOk, OnOk, ap, arith, inl, inr, refl, subst, sym}
use Rattle.std.proofs.lemmas.Result.{IfOk-weaker}
use Rattle.std.proofs.KnownBytes.{Appends-nil}
use Rattle.std.specs.declared.alloc.AllocError.{AllocError}
use Rattle.std.specs.Io.KnownBytes.{Appends}
use Rattle.zone_blocks.specs.declared.config.Config.{Config}
use Rattle.zone_blocks.specs.Config.{IsValidConfig}
use Rattle.boot_words.specs.{zone_of_boot, KnownTable}
use Rattle.mem_history.proofs.Along.{legal_front}
use Rattle.step_rules.specs.After.{Run}
use Rattle.script_replay.specs.Lines.{HasRun, SystemState}
use Rattle.line_server.specs.declared.form.SessionForm.{SessionForm}
use Rattle.line_server.specs.declared.form.SessionForm.TheVariants.{Answers, Steps}
use Rattle.line_server.specs.{SessionTerms, session_terms, steps_of_turns, KnownServer, terms_of, GivesAnswer, FailsSession, ServesSession}
use Rattle.line_server.proofs.Histories.{legal_turns_keep_it, turns_go_on}
use Rattle.line_server.specs.declared.fault.ServeFault.{ServeFault}
use Rattle.line_server.specs.declared.fault.ServeFault.TheVariants as serve
use Rattle.load_options.specs.declared.fault.WordsFault.TheVariants as words
use Rattle.load_options.specs.declared.task.Options.{Options}
use Rattle.load_run.specs.declared.fault.ProgramFault.{ProgramFault}
use Rattle.load_run.specs.declared.fault.ProgramFault.TheVariants as kinds
use Rattle.load_run.specs.declared.boot_end.BootEnd.{BootEnd}
use Rattle.load_run.specs.{IsNewBootState, written, EndsHeld, IsWholeRun, boot_end_text, fault_text, fault_status_of, LogsEnd, log_head_text}
use Rattle.load_run.specs.{BeginsHead, DrivesSession, EndsInForm, EndsSession, IsOfValid, IsSameFault, IsWorkFault, LeavesSession, LeavesWithHead}
use Rattle.load_run.specs.{ServesInput, ServesWithHead, StopsSession, WritesHead, steps_of_end, words_of_end}
use Rattle.line_server.specs.Writing.{AppendsBeginning}
use Rattle.load_run.proofs.Starting.{boot_agrees, boot_shown}
use Rattle.load_run.proofs.Whole.{whole_run}

-- a fault at work has status 1
work_status : (fault : ProgramFault) → IsWorkFault fault → fault_status_of fault ≡ 1
work_status kinds.Input is = refl
work_status kinds.Output is = refl
work_status (kinds.NoMemory error) is = refl
work_status (kinds.Words (words.NoMemory error)) is = refl
work_status fault is = absurd is

-- a fault of a boot that took the sizes
of_valid : (sizes : Config) (fault : ProgramFault) → IsValidConfig sizes → IsOfValid sizes fault
of_valid sizes (kinds.Words f) valid = tt
of_valid sizes fault valid = valid

-- a fault of a session is one at work
same_at_work : (why : ServeFault) (fault : ProgramFault) → IsSameFault why fault → IsWorkFault fault
same_at_work serve.Input kinds.Input is = tt
same_at_work serve.Output kinds.Output is = tt
same_at_work serve.NoMemory (kinds.NoMemory error) is = tt
same_at_work serve.Input fault is = absurd is
same_at_work serve.Output fault is = absurd is
same_at_work serve.NoMemory fault is = absurd is

-- ---- the status

-- the session ended
pub drives_served : (options : Options) (form : SessionForm) (input before after faults : Option (List ℕ))
    → ServesWithHead options form input before after
    → DrivesSession options form input (written before faults) (written after faults) 0
drives_served options form input before after faults serves = record {
  status_at_most = omega arith;
  silent = λ zero. refl;
  served = λ zero. serves;
  fails = λ one. absurd (omega (arith, one));
  no_output = λ two. absurd (omega (arith, two));
  refused = λ two. absurd (omega (arith, two));
}

-- it failed at its work
pub drives_failed : (options : Options) (form : SessionForm) (input before after faults faults_after : Option (List ℕ)) (fault : ProgramFault)
    (status : ℕ) → LeavesWithHead options form input before after fault → status ≡ fault_status_of fault
    → AppendsBeginning faults faults_after (fault_text fault)
    → DrivesSession options form input (written before faults) (written after faults_after) status
drives_failed options form input before after faults faults_after fault status left ended told =
    let one : status ≡ 1 = ended ∙ work_status fault left.at_work in
    record {
      status_at_most = omega (arith, one);
      silent = λ zero. absurd (omega (arith, one, zero));
      served = λ zero. absurd (omega (arith, one, zero));
      fails = λ same. record { fault = fault; left = left; told = told };
      no_output = λ two. absurd (omega (arith, one, two));
      refused = λ two. absurd (omega (arith, one, two));
    }

-- the sizes are refused
drives_refused : (options : Options) (form : SessionForm) (input before after faults faults_after : Option (List ℕ)) (status : ℕ)
    → StopsSession options form input before after kinds.BadConfig → status ≡ 2 → AppendsBeginning faults faults_after (fault_text kinds.BadConfig)
    → DrivesSession options form input (written before faults) (written after faults_after) status
drives_refused options form input before after faults faults_after status stops two told = record {
  status_at_most = omega (arith, two);
  silent = λ zero. absurd (omega (arith, two, zero));
  served = λ zero. absurd (omega (arith, two, zero));
  fails = λ one. absurd (omega (arith, two, one));
  no_output = λ same. stops.0;
  refused = λ same. record { refused = stops.1; told = told };
}

-- it stopped, for any fault
pub drives_stopped : (options : Options) (form : SessionForm) (input before after faults faults_after : Option (List ℕ)) (fault : ProgramFault)
    (status : ℕ) → StopsSession options form input before after fault → status ≡ fault_status_of fault
    → AppendsBeginning faults faults_after (fault_text fault)
    → DrivesSession options form input (written before faults) (written after faults_after) status
drives_stopped options form input before after faults faults_after kinds.BadConfig status stops ended told =
    drives_refused options form input before after faults faults_after status stops ended told
drives_stopped options form input before after faults faults_after fault status stops ended told =
    drives_failed options form input before after faults faults_after fault status stops ended told

-- ---- the head

-- a session that writes answers has no head
pub no_head : (form : SessionForm) (is_explained : Bool) (sizes : Config) (before : Option (List ℕ)) → form ≡ Answers is_explained → WritesHead form sizes before before
no_head form is_explained sizes before is = subst (λ (f : SessionForm). WritesHead f sizes before before) (sym is) refl

-- the head of a log was written, or not whole, or not at all
pub head_written : {T : Type 0} (r : Result T ProgramFault) (form : SessionForm) (sizes : Config) (before after : Option (List ℕ)) (bytes : List ℕ) → form ≡ Steps
    → bytes ≡ log_head_text sizes → OnOk r (Appends before after bytes) → OnOk r (WritesHead form sizes before after)
head_written r form sizes before after bytes is same written =
    subst (λ (f : SessionForm). OnOk r (WritesHead f sizes before after)) (sym is) (subst (λ (l : List ℕ). OnOk r (Appends before after l)) same written)

pub head_begun : {T : Type 0} (r : Result T ProgramFault) (form : SessionForm) (sizes : Config) (before after : Option (List ℕ)) (bytes : List ℕ) → form ≡ Steps
    → bytes ≡ log_head_text sizes → IfErr r (λ fault. fault ≡ kinds.Output) → AppendsBeginning before after bytes
    → IfErr r (λ fault. IsWorkFault fault × BeginsHead form sizes before after)
head_begun (Ok x) form sizes before after bytes is same failed begun = tt
head_begun (Err fault) form sizes before after bytes is same failed begun = (
  subst IsWorkFault (sym failed) tt,
  subst (λ (f : SessionForm). BeginsHead f sizes before after) (sym is) (subst (AppendsBeginning before after) same begun),
)

pub head_missed : (form : SessionForm) (sizes : Config) (before : Option (List ℕ)) → form ≡ Steps → BeginsHead form sizes before before
head_missed form sizes before is = subst (λ (f : SessionForm). BeginsHead f sizes before before) (sym is) (0, Appends-nil before)

-- ---- on a boot

-- if a run led to the end of a session, it and the steps of the end are all steps of the boot
end_whole : (form : SessionForm) (t : KnownTable) (is_audited : Bool) (run : Run) (end : SystemState) (text : List ℕ) → HasRun run end
    → (ends : EndsInForm form t is_audited end text)
    → IsWholeRun (zone_of_boot t) (words_of_end form t is_audited end text ends) (run ++ steps_of_end form t is_audited end text ends)
end_whole (Answers is_explained) t is_audited run end text has ends = whole_run t run end ends.ended has ends.ends
end_whole Steps t is_audited run end text has ends =
    let begun : HasRun run ends.begun = subst (HasRun run) (sym ends.renews.begun_is) has in whole_run t run ends.begun ends.ended begun ends.ends

module _ (options : Options) (form : SessionForm) (t : KnownTable) (server : KnownServer) (start : SystemState)
    (new : IsNewBootState options.sizes t start) (sized : server.sizes ≡ options.sizes) (formed : server.form ≡ form) (stands : server.state ≡ start) where
  -- what holds on the terms of a server holds on what it was made of
  as_made : (P : SessionTerms → Config → SystemState → Type 0) → P (terms_of t server) server.sizes server.state
      → P (session_terms t form) options.sizes start
  as_made P is =
      subst (λ (s : SystemState). P (session_terms t form) options.sizes s) stands
      (subst (λ (c : Config). P (session_terms t form) c server.state) sized
      (subst (λ (f : SessionForm). P (session_terms t f) server.sizes server.state) formed is))

  -- the server of a new boot served a session, and the boot ended
  pub session_ends : (input before middle : Option (List ℕ)) (end left : SystemState) (ending : List ℕ)
      → ServesSession (terms_of t server) server.sizes input server.state end before middle → left ≡ end
      → EndsInForm form t options.is_audited left ending → EndsSession options form input before middle ending
  session_ends input before middle end left ending serves is ends =
      let session = as_made (λ on sizes s. ServesSession on sizes input s end before middle) serves in
      let on = session_terms t form in
      let answers = session.holds.answers in
      let run = steps_of_turns on options.sizes 1 session.turns start end answers in
      let end_is = subst (λ (s : SystemState). EndsInForm form t options.is_audited s ending) is ends in
      let all = end_whole form t options.is_audited run end ending (turns_go_on on options.sizes 1 session.turns start end answers [] new.so_far) end_is in
      let legal = legal_front (zone_of_boot t) run (steps_of_end form t options.is_audited end ending end_is) all.leads.legal in
      record {
        frames = t;
        start = start;
        end = end;
        first = new;
        session = session;
        history = (legal_turns_keep_it on options.sizes 1 session.turns start end answers [] (boot_shown _ _ _ new) legal).1 (boot_agrees _ _ _ new);
        agrees = boot_agrees _ _ _ new;
        ends = end_is;
        whole = run ++ steps_of_end form t options.is_audited end ending end_is;
        whole_is = refl;
        is_whole = all;
      }

  -- or the session failed
  pub session_fails : (input before after : Option (List ℕ)) (end : SystemState) (why : ServeFault) (fault : ProgramFault)
      → IsValidConfig options.sizes → FailsSession (terms_of t server) server.sizes input server.state end before after why → IsSameFault why fault
      → LeavesSession options form input before after fault
  session_fails input before after end why fault valid fails is = record {
    at_work = same_at_work why fault is;
    valid = of_valid options.sizes fault valid;
    left = inr (inl (record {
      frames = t;
      start = start;
      end = end;
      first = new;
      why = why;
      same = is;
      fails = as_made (λ on sizes s. FailsSession on sizes input s end before after why) fails;
    }));
  }

-- ---- the end

module _ {Z E : Type 0} (r : Result (Vec ℕ Z) E) (t : KnownTable) (form : SessionForm) (is_audited : Bool) (before : SystemState) where
  -- the boot ended after answers
  pub ended_plainly : (is_explained : Bool) (ended : BootEnd) (empty : List ℕ) → form ≡ Answers is_explained → EndsHeld t before ended → empty ≡ []
      → IfOk r (λ text. text.items ≡ empty ++ boot_end_text is_audited ended) → GivesAnswer r (EndsInForm form t is_audited before)
  ended_plainly is_explained ended empty is ends none told = record {
    answer = boot_end_text is_audited ended;
    so = subst (λ (f : SessionForm). EndsInForm f t is_audited before (boot_end_text is_audited ended)) (sym is)
        (record { ended = ended; ends = ends; text_is = refl });
    given = IfOk-weaker r _ _ (λ text is_text. is_text ∙ ap (λ (l : List ℕ). l ++ boot_end_text is_audited ended) none) told;
  }

  -- or after parts of a log
  pub ended_logged : (part : List ℕ) → form ≡ Steps → LogsEnd t before part → IfOk r (λ found. found.items ≡ part)
      → GivesAnswer r (EndsInForm form t is_audited before)
  ended_logged part is ends found = record {
    answer = part;
    so = subst (λ (f : SessionForm). EndsInForm f t is_audited before part) (sym is) ends;
    given = found;
  }

-- the text of the end was written
pub ending_written : {T : Type 0} (options : Options) (form : SessionForm) (input before middle after : Option (List ℕ)) (ending : List ℕ)
    (r : Result T ProgramFault) → EndsSession options form input before middle ending → OnOk r (Appends middle after ending)
    → OnOk r (ServesInput options form input before after)
ending_written options form input before middle after ending (Ok x) ends is =
    record { middle = middle; ending = ending; ends = ends; written = is }
ending_written options form input before middle after ending (Err fault) ends is = tt

-- or not whole
pub ending_begun : {T : Type 0} (options : Options) (form : SessionForm) (input before middle after : Option (List ℕ)) (ending : List ℕ)
    (r : Result T ProgramFault) → IsValidConfig options.sizes → EndsSession options form input before middle ending
    → IfErr r (λ fault. fault ≡ kinds.Output) → AppendsBeginning middle after ending → IfErr r (LeavesSession options form input before after)
ending_begun options form input before middle after ending (Ok x) valid ends is begun = tt
ending_begun options form input before middle after ending (Err fault) valid ends is begun = record {
  at_work = subst IsWorkFault (sym is) tt;
  valid = of_valid options.sizes fault valid;
  left = inr (inr (record { middle = middle; ending = ending; ends = ends; begun = begun }));
}

-- or not at all
pub ending_missed : (options : Options) (form : SessionForm) (input before middle : Option (List ℕ)) (ending : List ℕ) (error : AllocError) → IsValidConfig options.sizes
    → EndsSession options form input before middle ending → LeavesSession options form input before middle (kinds.NoMemory error)
ending_missed options form input before middle ending error valid ends = record {
  at_work = tt;
  valid = valid;
  left = inr (inr (record { middle = middle; ending = ending; ends = ends; begun = (0, Appends-nil middle) }));
}
