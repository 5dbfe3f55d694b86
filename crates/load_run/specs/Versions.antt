-- What a request for the program's version promises.
use Rattle.std.specs.Prelude.{◌≡◌, ℕ, ◌≤◌, List, codes}
use Rattle.std.specs.Io.KnownBytes.{Appends}
use Rattle.load_run.specs.declared.fault.ProgramFault.{ProgramFault}
use Rattle.load_run.specs.Causes.{Written}
use Rattle.load_run.specs.Fault.{fault_text, fault_status_of}
use Rattle.line_server.specs.Writing.{AppendsBeginning}

-- the line with the program's name and version
abbrev pub version_text : List ℕ
version_text = codes "memcg 0.2.0\n"

-- the version wasn't written, or not whole; the fault writer got why, as far as it took it
pub record FailsToWriteVersion (before after : Written) : Type 0 where
  pub fault : ProgramFault
  pub is_failure : fault_status_of fault ≡ 1
  pub begun : AppendsBeginning before.output after.output version_text
  pub told : AppendsBeginning before.faults after.faults (fault_text fault)

-- the version was written, and the status is 0; or that failed, and it is 1
pub record WritesVersion (before after : Written) (status : ℕ) : Type 0 where
  pub status_at_most : status ≤ 1
  pub silent : status ≡ 0 → after.faults ≡ before.faults
  pub written : status ≡ 0 → Appends before.output after.output version_text
  pub fails : status ≡ 1 → FailsToWriteVersion before after
