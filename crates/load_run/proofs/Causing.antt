-- Why a fault came, by what each part of the program says of its own.
use Rattle.std.proofs.Common.{◌≡◌, ◌∙◌, ℕ, List, length, take, Option, None, Some, IfSome, IsSome, arith, ap, refl, subst, sym}
use Rattle.std.proofs.lemmas.List.{length-take, take_all}
use Rattle.std.proofs.KnownBytes.{Appends-nil, Keeps-refl}
use Rattle.script_lines.specs.declared.line.Line.{Line}
use Rattle.script_lines.specs.declared.fault.ScriptFault.TheVariants as script
use Rattle.script_lines.specs.Script.{IsScript}
use Rattle.load_options.specs.declared.task.Options.{Options}
use Rattle.load_run.specs.declared.fault.ProgramFault.{ProgramFault}
use Rattle.load_run.specs.declared.fault.ProgramFault.TheVariants.{Words, Script, BadConfig, IllegalLine, IllegalEnd, Output, NoMemory}
use Rattle.load_run.specs.{IsAnswered, bytes_read, FailsAtWork, HasCause, IsMisused, LeavesAnswers, written, IsBootFault, IsScriptFault, IsWordsFault}
use Rattle.load_run.specs.{fault_text, fault_status_of}
use Rattle.load_options.specs.Sizes.{HasSizesInRange}
use Rattle.line_server.specs.Writing.{AppendsBeginning}

-- the words gave no options
pub words_cause : (asked : Option Options) (input : Option (List ℕ)) (fault : ProgramFault) → IsWordsFault asked fault
    → IfSome input (HasCause asked fault)
words_cause asked None fault is = tt
words_cause asked (Some bytes) (Words fault) is = is
words_cause asked (Some bytes) fault is = absurd is

-- what was read is no script
pub script_cause : (asked : Option Options) (options : Options) (input : Option (List ℕ)) (text : List ℕ) (fault : ProgramFault)
    → asked ≡ Some options → HasSizesInRange options.sizes → IfSome input (λ bytes. text ≡ bytes_read bytes)
    → IsScriptFault options.sizes text fault → IfSome input (HasCause asked fault)
script_cause asked options None text fault is_asked in_range read is = tt
script_cause asked options (Some bytes) text (Script (script.BadLine n)) is_asked in_range read is = record {
  options = options;
  is_asked = is_asked;
  in_range = in_range;
  first = subst (λ (l : List ℕ). IsScriptFault options.sizes l (Script (script.BadLine n))) read is;
}
script_cause asked options (Some bytes) text (Script script.NoMemory) is_asked in_range read is = subst IsSome (sym is_asked) refl
script_cause asked options (Some bytes) text fault is_asked in_range read is = absurd is

-- what was read is all of the input, if it is a script
whole_script : (options : Options) (bytes text : List ℕ) (lines : List Line) → text ≡ bytes_read bytes → IsScript options.sizes text lines
    → IsScript options.sizes bytes lines
whole_script options bytes text lines read script =
    let fits = script.fits in
    let len : length text ≡ length (take 1048577 bytes) = ap length read in
    let taken = length-take 1048577 bytes in
    subst (λ (l : List ℕ). IsScript options.sizes l lines) (read ∙ take_all 1048577 bytes (omega arith)) script

-- no boot answered the script
pub boot_cause : (asked : Option Options) (options : Options) (input : Option (List ℕ)) (text : List ℕ) (lines : List Line)
    (fault : ProgramFault) → asked ≡ Some options → IfSome input (λ bytes. text ≡ bytes_read bytes)
    → IsScript options.sizes text lines → IsBootFault options lines fault → IfSome input (HasCause asked fault)
boot_cause asked options None text lines fault is_asked read script is = tt
boot_cause asked options (Some bytes) text lines BadConfig is_asked read script is =
    record { options = options; is_asked = is_asked; lines = lines; script = whole_script options bytes text lines read script; refused = is }
boot_cause asked options (Some bytes) text lines (IllegalLine number) is_asked read script is =
    record { options = options; is_asked = is_asked; lines = lines; script = whole_script options bytes text lines read script; stops = is.0 }
boot_cause asked options (Some bytes) text lines IllegalEnd is_asked read script is =
    record { options = options; is_asked = is_asked; lines = lines; script = whole_script options bytes text lines read script; stops = is.0 }
boot_cause asked options (Some bytes) text lines (NoMemory e) is_asked read script is = subst IsSome (sym is_asked) refl
boot_cause asked options (Some bytes) text lines fault is_asked read script is = absurd is.0

-- misuse that has a cause, and was told
pub misused : (asked : Option Options) (input before after : Option (List ℕ)) (fault : ProgramFault) → fault_status_of fault ≡ 2
    → IfSome input (HasCause asked fault) → AppendsBeginning before after (fault_text fault)
    → IfSome input (IsMisused asked before after)
misused asked None before after fault is cause told = tt
misused asked (Some bytes) before after fault is cause told = record { fault = fault; is_misuse = is; cause = cause; told = told }

-- nothing was written, so that is a beginning of the answers too
nothing_left : (asked : Option Options) (input : List ℕ) (fault : ProgramFault) (output : Option (List ℕ)) → HasCause asked fault input
    → LeavesAnswers asked fault output output input
nothing_left asked input Output output cause = record { text = cause.text; answered = cause.answered; begun = (0, Appends-nil output) }
nothing_left asked input fault output cause = Keeps-refl output

-- failure that has a cause, before an answer was written
pub failed : (asked : Option Options) (input output before after : Option (List ℕ)) (fault : ProgramFault) → fault_status_of fault ≡ 1
    → IfSome input (HasCause asked fault) → AppendsBeginning before after (fault_text fault)
    → IfSome input (FailsAtWork asked (written output before) (written output after))
failed asked None output before after fault is cause told = tt
failed asked (Some bytes) output before after fault is cause told = record {
  fault = fault;
  is_failure = is;
  cause = cause;
  left = nothing_left asked bytes fault output cause;
  told = told;
}

-- and that of the output, which took a beginning of the answers
pub cut_short : (asked : Option Options) (input output_before output_after before after : Option (List ℕ)) (text given : List ℕ)
    (fault : ProgramFault) → IfSome input (IsAnswered asked text) → given ≡ text
    → AppendsBeginning output_before output_after given → fault ≡ Output → AppendsBeginning before after (fault_text fault)
    → IfSome input (FailsAtWork asked (written output_before before) (written output_after after))
cut_short asked None output_before output_after before after text given fault answered same written is told = tt
cut_short asked (Some bytes) output_before output_after before after text given fault answered same written is told = record {
  fault = Output;
  is_failure = refl;
  cause = record { text = text; answered = answered };
  left = record { text = text; answered = answered; begun = subst (λ (l : List ℕ). AppendsBeginning output_before output_after l) same written };
  told = subst (λ (f : ProgramFault). AppendsBeginning before after (fault_text f)) is told;
}
