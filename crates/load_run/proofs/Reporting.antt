-- What a lint promises, from what it says and what the writers took. Serves `drive_lint`.
use Rattle.std.proofs.Common.{◌≡◌, ◌∙◌, ℕ, List, Bool, true, false, Option, None, Some, IfSome, ap, arith, inl, inr, refl, subst, sym}
use Rattle.std.specs.Prelude.{◌⊎◌}
use Rattle.std.specs.Io.KnownBytes.{Appends}
use Rattle.zone_blocks.specs.declared.config.Config.{Config}
use Rattle.load_options.specs.declared.fault.WordsFault.TheVariants as words
use Rattle.load_run.specs.declared.fault.ProgramFault.{ProgramFault}
use Rattle.load_run.specs.declared.fault.ProgramFault.TheVariants.{Input, NoMemory, Output, Words}
use Rattle.load_run.specs.{bytes_read, written, fault_text, fault_status_of, FailsToLint, IsEarlyFault, IsLintText, LeavesFindings, ReportsFindings}
use Rattle.load_run.specs.{ReportsNothing, lint_status}
use Rattle.load_run.specs.Lints.{Lints}
use Rattle.line_server.specs.Writing.{AppendsBeginning}

-- what is known of what the lint says, if the input's bytes are known
abbrev pub Reports : Config → Option (List ℕ) → List ℕ → Bool → Type 0
Reports sizes input text is_clean = IfSome input (λ bytes. IsLintText sizes (bytes_read bytes) text is_clean)

-- nothing was found
lints_clean : (sizes : Config) (input before after faults : Option (List ℕ)) (text given : List ℕ) → Reports sizes input text true
    → given ≡ text → Appends before after given → Lints sizes input (written before faults) (written after faults) 0
lints_clean sizes input before after faults text given lint same whole = record {
  status_at_most = omega arith;
  silent = λ zero. refl;
  clean = λ zero. go input lint;
  found = λ one. absurd (omega (arith, one));
}
  where
    go : (bytes : Option (List ℕ)) → Reports sizes bytes text true → IfSome bytes (ReportsNothing sizes before after)
    go None is = tt
    go (Some b) is = record { text = text; lint = is; written = subst (Appends before after) same whole }

-- something was
lints_found : (sizes : Config) (input before after faults : Option (List ℕ)) (text given : List ℕ) → Reports sizes input text false
    → given ≡ text → Appends before after given → Lints sizes input (written before faults) (written after faults) 1
lints_found sizes input before after faults text given lint same whole = record {
  status_at_most = omega arith;
  silent = λ zero. refl;
  clean = λ zero. absurd (omega (arith, zero));
  found = λ one. go input lint;
}
  where
    go : (bytes : Option (List ℕ)) → Reports sizes bytes text false
        → IfSome bytes (λ b. ReportsFindings sizes (written before faults) (written after faults) b ⊎ FailsToLint sizes (written before faults) (written after faults) b)
    go None is = tt
    go (Some b) is = inl (record { text = text; lint = is; written = subst (Appends before after) same whole; silent = refl })

-- what was found was written, whole
pub lints_written : (sizes : Config) (input before after faults : Option (List ℕ)) (text given : List ℕ) (is_clean : Bool) (status : ℕ)
    → Reports sizes input text is_clean → given ≡ text → Appends before after given → status ≡ lint_status is_clean
    → Lints sizes input (written before faults) (written after faults) status
lints_written sizes input before after faults text given true status lint same whole is =
    subst (Lints sizes input (written before faults) (written after faults)) (sym is)
    (lints_clean sizes input before after faults text given lint same whole)
lints_written sizes input before after faults text given false status lint same whole is =
    subst (Lints sizes input (written before faults) (written after faults)) (sym is)
    (lints_found sizes input before after faults text given lint same whole)

-- the lint failed
lints_failed : (sizes : Config) (input before after faults faults_after : Option (List ℕ)) (fault : ProgramFault) (status : ℕ)
    → IfSome input (LeavesFindings sizes fault before after) → status ≡ 1 → AppendsBeginning faults faults_after (fault_text fault)
    → Lints sizes input (written before faults) (written after faults_after) status
lints_failed sizes input before after faults faults_after fault status left ended told = record {
  status_at_most = omega (arith, ended);
  silent = λ zero. absurd (omega (arith, ended, zero));
  clean = λ zero. absurd (omega (arith, ended, zero));
  found = λ one. go input left;
}
  where
    go : (bytes : Option (List ℕ)) → IfSome bytes (LeavesFindings sizes fault before after)
        → IfSome bytes (λ b. ReportsFindings sizes (written before faults) (written after faults_after) b ⊎ FailsToLint sizes (written before faults) (written after faults_after) b)
    go None left = tt
    go (Some b) left = inr (record { fault = fault; left = left; told = told })

-- the output failed
pub lints_short : (sizes : Config) (input before after faults faults_after : Option (List ℕ)) (text given : List ℕ) (is_clean : Bool)
    (fault : ProgramFault) (status : ℕ) → Reports sizes input text is_clean → given ≡ text → AppendsBeginning before after given
    → fault ≡ Output → status ≡ fault_status_of fault → AppendsBeginning faults faults_after (fault_text fault)
    → Lints sizes input (written before faults) (written after faults_after) status
lints_short sizes input before after faults faults_after text given is_clean fault status lint same begun is status_is told =
    lints_failed sizes input before after faults faults_after fault status
    (subst (λ (f : ProgramFault). IfSome input (LeavesFindings sizes f before after)) (sym is) (go input lint)) (status_is ∙ ap fault_status_of is) told
  where
    go : (bytes : Option (List ℕ)) → Reports sizes bytes text is_clean → IfSome bytes (LeavesFindings sizes Output before after)
    go None lint = tt
    go (Some b) lint = record { text = text; is_clean = is_clean; lint = lint; begun = subst (AppendsBeginning before after) same begun }

pub everywhere : (bytes : Option (List ℕ)) (P : List ℕ → Type 0) → ((text : List ℕ) → P text) → IfSome bytes P
everywhere None P all = tt
everywhere (Some text) P all = all text

-- a fault before anything is written has status 1
early_status : (fault : ProgramFault) → IsEarlyFault fault → fault_status_of fault ≡ 1
early_status Input early = refl
early_status (NoMemory e) early = refl
early_status (Words (words.NoMemory e)) early = refl
early_status fault early = absurd early

-- a fault came before there was anything to write
pub lints_early : (sizes : Config) (input output faults faults_after : Option (List ℕ)) (fault : ProgramFault) (status : ℕ)
    → IsEarlyFault fault → status ≡ fault_status_of fault → AppendsBeginning faults faults_after (fault_text fault)
    → Lints sizes input (written output faults) (written output faults_after) status
lints_early sizes input output faults faults_after Output status early ended told = absurd early
lints_early sizes input output faults faults_after fault status early ended told =
    lints_failed sizes input output output faults faults_after fault status
    (everywhere input (LeavesFindings sizes fault output output) (λ b. (early, refl))) (ended ∙ early_status fault early) told
