-- What a script is answered, from what was read of it.
use Rattle.std.proofs.Common.{◌≡◌, ℕ, All, zero, suc, ◌+◌, refl, List, length, take, Option, None}
use Rattle.std.proofs.Common.{Some, IfSome, Result, Ok, Err, IfOk, arith, ap, ◌∙◌, sym, subst}
use Rattle.std.proofs.lemmas.List.{length-take, take_all}
use Rattle.std.proofs.lemmas.Bool.{false≢true}
use Rattle.std.specs.Io.KnownBytes.{Appends}
use Rattle.std.specs.Prelude.{is_some}
use Rattle.std.specs.Result.{result_ok}
use Rattle.mem_system.specs.Boots.{first_cpus}
use Rattle.zone_blocks.specs.declared.config.Config.{Config}
use Rattle.zone_blocks.specs.Config.{IsValidConfig}
use Rattle.script_lines.specs.declared.line.Line.{Line}
use Rattle.script_lines.specs.Script.{IsScript}
use Rattle.load_options.specs.declared.task.Options.{Options}
use Rattle.load_run.specs.{AreAnswers, IsAnswered, IsWritten, answered_status}
use Rattle.script_replay.specs.Ranges.{LineInRange}
use Rattle.script_replay.proofs.InRange.{script_there}

the_same : (a b : Options) → Some a ≡ Some b → a ≡ b
the_same a b e = cc

-- the answers were written after what the writer held, if the script is known
pub answers_written : (options : Options) (input before after : Option (List ℕ)) (text : List ℕ) (status : ℕ)
    → IfSome input (IsAnswered (Some options) text) → Appends before after text
    → status ≡ answered_status options.is_strict options.is_numbered text → IfSome input (IsWritten (Some options) status before after)
answers_written options None before after text status is written ended = tt
answers_written options (Some bytes) before after text status is written ended = record {
  text = text;
  answered = is;
  status_is = ended ∙ ap (λ (o : Options). answered_status o.is_strict o.is_numbered text) (the_same options is.options is.is_asked);
  written = written;
}

-- what was read of an input is all of it, where it is a script, and is answered by what its lines are
pub answered : (asked : Option Options) (input : Option (List ℕ)) (script : List ℕ) (options : Options) (lines : List Line) (text : List ℕ)
    → asked ≡ Some options → IfSome input (λ bytes. script ≡ take 1048577 bytes) → IsScript options.sizes script lines → IsValidConfig options.sizes
    → AreAnswers options.task options.sizes options.is_audited options.is_numbered script lines text → IfSome input (IsAnswered asked text)
answered asked None script options lines text is_asked read is valid answers = tt
answered asked (Some bytes) script options lines text is_asked read is valid answers =
    let fits = is.fits in
    let len : length script ≡ length (take 1048577 bytes) = ap length read in
    let taken = length-take 1048577 bytes in
    let whole : take 1048577 bytes ≡ bytes = take_all 1048577 bytes (omega arith) in
    let is_script : IsScript options.sizes bytes lines = subst (λ (all : List ℕ). IsScript options.sizes all lines) (read ∙ whole) is in
    record {
      options = options;
      is_asked = is_asked;
      valid = valid;
      lines = lines;
      script = is_script;
      answers = subst (λ (all : List ℕ). AreAnswers options.task options.sizes options.is_audited options.is_numbered all lines text) (read ∙ whole) answers;
    }

-- and what comes from two facts
pub joined : {T E : Type 0} (r : Result T E) (P Q R : T → Type 0) → ((x : T) → P x → Q x → R x) → IfOk r P → IfOk r Q → IfOk r R
joined (Ok x) P Q R follows p q = follows x p q
joined (Err e) P Q R follows p q = tt

-- so many CPUs have so many parts
pub first_long : (p n : ℕ) → length (first_cpus p n) ≡ n
first_long p zero = refl
first_long p (suc n) = ap (λ (k : ℕ). suc k) (first_long (p + 1) n)

-- what the lines of a script name is there, in a boot of the script's sizes
pub script_of_boot : (sizes booted : Config) (bytes : List ℕ) (parsed lines : List Line) → booted ≡ sizes → lines ≡ parsed
    → IsScript sizes bytes parsed → All (LineInRange booted.frames booted.cpus) lines
script_of_boot sizes booted bytes parsed lines same is_parsed is =
    let there = script_there sizes bytes parsed is in
    subst (λ (b : Config × List Line). All (LineInRange b.0.frames b.0.cpus) b.1) (λ i. (sym same i, sym is_parsed i)) there

-- what holds of a good result holds of what was kept of it
pub kept_ok : {T E : Type 0} (r : Result T E) (x : T) (P : T → Type 0) → Some x ≡ result_ok r → IfOk r P → P x
kept_ok (Ok y) x P same ok = let is : x ≡ y = cc in subst P (sym is) ok
kept_ok (Err e) x P same ok = absurd (false≢true (sym (ap is_some same)))
