-- What a run on a script promises, from how it ended: its answers were written, or a beginning of them, or a fault came before.
-- Serves `drive_script`.
use Rattle.std.proofs.Common.{◌≡◌, ◌∙◌, ℕ, ◌≤◌, Bool, true, false, cond, List, Option, Some, IfSome, ap, arith, inl, inr, refl, subst, sym}
use Rattle.std.specs.Prelude.{◌&&◌}
use Rattle.std.specs.Io.KnownBytes.{Appends}
use Rattle.script_lines.specs.declared.fault.ScriptFault.TheVariants as script
use Rattle.load_options.specs.declared.fault.WordsFault.TheVariants as words
use Rattle.load_options.specs.declared.task.Options.{Options}
use Rattle.load_run.specs.declared.fault.ProgramFault.{ProgramFault}
use Rattle.load_run.specs.declared.fault.ProgramFault.TheVariants.{Words, Script, Output}
use Rattle.load_run.specs.{IsAnswered, IsWritten, HasCause, written, DrivesScript, IsAnsweredStatus, fault_text, fault_status_of, answered_status}
use Rattle.load_run.specs.{has_refusal}
use Rattle.line_server.specs.Writing.{AppendsBeginning}
use Rattle.load_run.proofs.Answering.{answers_written}
use Rattle.load_run.proofs.Causing.{cut_short, failed, misused}

-- a fault's status is 1 or 2
abbrev IsFaultStatus : ℕ → Type 0
IsFaultStatus status = (1 ≤ status) × (status ≤ 2)

fault_status : (fault : ProgramFault) → IsFaultStatus (fault_status_of fault)
fault_status (Words (words.BadWords text)) = (omega arith, omega arith)
fault_status (Script (script.BadLine number)) = (omega arith, omega arith)
fault_status fault = (omega arith, omega arith)

not_answered : (status : ℕ) → IsFaultStatus status → IsAnsweredStatus status → ⊥
not_answered status fault (inl zero) = let low = fault.0 in omega (arith, zero, low)
not_answered status fault (inr three) = let high = fault.1 in omega (arith, three, high)

-- the answers were written, all of them
drives_as : (options : Options) (input output output_after faults : Option (List ℕ)) (status : ℕ) → IsAnsweredStatus status
    → IfSome input (IsWritten (Some options) status output output_after)
    → DrivesScript (Some options) input (written output faults) (written output_after faults) status
drives_as options input output output_after faults status well is = record {
  status_at_most = at_most well;
  is_asked = λ answered. refl;
  silent = λ answered. refl;
  answered = λ answered. is;
  fails = λ one. absurd (not_answered status (omega (arith, one), omega (arith, one)) well);
  no_output = λ two. absurd (not_answered status (omega (arith, two), omega (arith, two)) well);
  misused = λ two. absurd (not_answered status (omega (arith, two), omega (arith, two)) well);
}
  where
    at_most : IsAnsweredStatus status → status ≤ 3
    at_most (inl zero) = omega (arith, zero)
    at_most (inr three) = omega (arith, three)

zero_or_three : (b : Bool) (status : ℕ) → status ≡ cond b 3 0 → IsAnsweredStatus status
zero_or_three true status is = inr is
zero_or_three false status is = inl is

pub drives_well : (options : Options) (input output output_after faults : Option (List ℕ)) (text given : List ℕ) (status : ℕ)
    → IfSome input (IsAnswered (Some options) text) → given ≡ text → Appends output output_after given
    → status ≡ answered_status options.is_strict options.is_numbered given
    → DrivesScript (Some options) input (written output faults) (written output_after faults) status
drives_well options input output output_after faults text given status answered same whole ended =
    drives_as options input output output_after faults status
    (zero_or_three (options.is_strict && has_refusal options.is_numbered given) status ended)
    (answers_written options input output output_after text status answered (subst (Appends output output_after) same whole)
    (ended ∙ ap (answered_status options.is_strict options.is_numbered) same))

-- the output failed, and took a beginning of them
pub drives_short : (asked : Option Options) (input output output_after faults faults_after : Option (List ℕ)) (text given : List ℕ)
    (fault : ProgramFault) (status : ℕ) → IfSome input (IsAnswered asked text) → given ≡ text → AppendsBeginning output output_after given
    → fault ≡ Output → status ≡ fault_status_of fault → AppendsBeginning faults faults_after (fault_text fault)
    → DrivesScript asked input (written output faults) (written output_after faults_after) status
drives_short asked input output output_after faults faults_after text given fault status answered same begun is status_is told =
    let ended : status ≡ 1 = status_is ∙ ap fault_status_of is in
    let not_well = not_answered status (omega (arith, ended), omega (arith, ended)) in
    record {
      status_at_most = omega (arith, ended);
      is_asked = λ well. absurd (not_well well);
      silent = λ well. absurd (not_well well);
      answered = λ well. absurd (not_well well);
      fails = λ one. cut_short asked input output output_after faults faults_after text given fault answered same begun is told;
      no_output = λ two. absurd (omega (arith, ended, two));
      misused = λ two. absurd (omega (arith, ended, two));
    }

-- a fault came before there were answers
pub drives_badly : (asked : Option Options) (input output faults faults_after : Option (List ℕ)) (fault : ProgramFault) (status : ℕ)
    → IfSome input (HasCause asked fault) → status ≡ fault_status_of fault → AppendsBeginning faults faults_after (fault_text fault)
    → DrivesScript asked input (written output faults) (written output faults_after) status
drives_badly asked input output faults faults_after fault status cause status_is told =
    let not_well = not_answered status (subst IsFaultStatus (sym status_is) (fault_status fault)) in
    record {
      status_at_most = let high = (fault_status fault).1 in omega (arith, status_is, high);
      is_asked = λ well. absurd (not_well well);
      silent = λ well. absurd (not_well well);
      answered = λ well. absurd (not_well well);
      fails = λ one. failed asked input output faults faults_after fault (sym status_is ∙ one) cause told;
      no_output = λ two. refl;
      misused = λ two. misused asked input faults faults_after fault (sym status_is ∙ two) cause told;
    }
