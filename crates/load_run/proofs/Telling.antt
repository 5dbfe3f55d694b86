-- What a request for the version promises, from what the writers took. Serves `drive_version`.
use Rattle.std.proofs.Common.{◌≡◌, ◌∙◌, ℕ, List, Option, arith, refl, sym, subst}
use Rattle.std.specs.Io.KnownBytes.{Appends}
use Rattle.std.proofs.KnownBytes.{Appends-nil}
use Rattle.load_run.specs.declared.fault.ProgramFault.{ProgramFault}
use Rattle.load_run.specs.declared.fault.ProgramFault.TheVariants.{Output, NoMemory}
use Rattle.load_run.specs.{written, LeavesLine, fault_text, fault_status_of, WritesVersion, version_text}
use Rattle.line_server.specs.Writing.{AppendsBeginning}

-- the version was written, whole
pub version_written : (before after faults : Option (List ℕ)) → Appends before after version_text
    → WritesVersion (written before faults) (written after faults) 0
version_written before after faults whole = record {
  status_at_most = omega arith;
  silent = λ zero. refl;
  written = λ zero. whole;
  fails = λ one. absurd (omega (arith, one));
}

-- that failed with this fault
pub version_failed : (before after faults faults_after : Option (List ℕ)) (fault : ProgramFault) (status : ℕ) → fault_status_of fault ≡ 1
    → AppendsBeginning before after version_text → status ≡ fault_status_of fault → AppendsBeginning faults faults_after (fault_text fault)
    → WritesVersion (written before faults) (written after faults_after) status
version_failed before after faults faults_after fault status failure begun is told =
    let ended : status ≡ 1 = is ∙ failure in record {
      status_at_most = omega (arith, ended);
      silent = λ zero. absurd (omega (arith, ended, zero));
      written = λ zero. absurd (omega (arith, ended, zero));
      fails = λ one. record { fault = fault; is_failure = failure; begun = begun; told = told };
    }

-- it wasn't written, or not whole
pub version_unwritten : (before after faults faults_after : Option (List ℕ)) (fault : ProgramFault) (status : ℕ)
    → LeavesLine version_text before after fault → status ≡ fault_status_of fault → AppendsBeginning faults faults_after (fault_text fault)
    → WritesVersion (written before faults) (written after faults_after) status
version_unwritten before after faults faults_after Output status left is told =
    version_failed before after faults faults_after Output status refl left is told
version_unwritten before after faults faults_after (NoMemory e) status left is told =
    version_failed before after faults faults_after (NoMemory e) status refl
    (subst (λ (o : Option (List ℕ)). AppendsBeginning before o version_text) (sym left) (0, Appends-nil before)) is told
version_unwritten before after faults faults_after fault status left is told = absurd left
