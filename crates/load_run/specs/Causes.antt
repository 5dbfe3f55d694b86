-- Why the program ends without its answers to a script, and what it leaves then.
use Rattle.std.specs.Prelude.{◌≡◌, ℕ, List, Option, Some, Err, IsSome}
use Rattle.std.specs.Io.KnownBytes.{Keeps}
use Rattle.zone_blocks.specs.declared.config.Config.{Config}
use Rattle.zone_blocks.specs.Config.{IsValidConfig}
use Rattle.script_lines.specs.declared.fault.ScriptFault.TheVariants as script
use Rattle.script_lines.specs.declared.line.Line.{Line}
use Rattle.script_lines.specs.Script.{IsFirstBadLine, IsScript}
use Rattle.script_replay.specs.declared.form.Form.{Form}
use Rattle.load_options.specs.declared.task.Options.{Options}
use Rattle.load_options.specs.{HasSizesInRange, GivesOptions}
use Rattle.load_run.specs.declared.fault.ProgramFault.{ProgramFault}
use Rattle.load_run.specs.declared.fault.ProgramFault.TheVariants.{Words, Script, BadLogLine, BadConfig}
use Rattle.load_run.specs.declared.fault.ProgramFault.TheVariants.{IllegalLine, IllegalEnd, Input, Output, NoMemory}
use Rattle.load_run.specs.Answers.{IsAnswered, bytes_read}
use Rattle.load_run.specs.Fault.{fault_text, fault_status_of}
use Rattle.load_run.specs.Stopping.{OfCheckedForm, StopsAtIllegalEnd, StopsAtIllegalLine}
use Rattle.line_server.specs.Writing.{AppendsBeginning}

-- the line of this number of what is read of the input is the first bad one, for the sizes that are asked for
pub record IsBadAt (asked : Option Options) (number : ℕ) (input : List ℕ) : Type 0 where
  pub options : Options
  pub is_asked : asked ≡ Some options
  pub in_range : HasSizesInRange options.sizes
  pub first : IsFirstBadLine options.sizes (bytes_read input) number

-- the input is a script for the sizes that are asked for, and a boot refuses these
pub record HasRefusedSizes (asked : Option Options) (input : List ℕ) : Type 0 where
  pub options : Options
  pub is_asked : asked ≡ Some options
  pub lines : List Line
  pub script : IsScript options.sizes input lines
  pub refused : ¬ IsValidConfig options.sizes

-- the input is a script for the sizes that are asked for, each step of a replay is checked, and this is how it stopped
pub record IsStopped (asked : Option Options) (input : List ℕ) (stops_at : Config → Form → List Line → Type 0)
    : Type 0 where
  pub options : Options
  pub is_asked : asked ≡ Some options
  pub lines : List Line
  pub script : IsScript options.sizes input lines
  pub stops : OfCheckedForm options.task options.is_numbered (λ form. stops_at options.sizes form lines)

-- the options that are asked for have answers to the input
pub record HasAnswers (asked : Option Options) (input : List ℕ) : Type 0 where
  pub text : List ℕ
  pub answered : IsAnswered asked text input

-- Which fault has which cause, if the input should be a script. The words are judged first, then the script, then the
-- sizes. So any fault but one of the words needs words that ask for options, and the sizes are refused only if the
-- input is a script. A line is named for a step that isn't legal only if the options ask for a check, and the replay
-- stopped at that line. No clause names a further cause for memory that ran out, or for an input that failed.
abbrev pub HasCause : Option Options → ProgramFault → (input : List ℕ) → Type 0
HasCause asked (Words fault) input = GivesOptions asked (Err fault)
HasCause asked (Script (script.BadLine number)) input = IsBadAt asked number input
HasCause asked (Script script.NoMemory) input = IsSome asked
HasCause asked (BadLogLine number reason) input = ⊥
HasCause asked BadConfig input = HasRefusedSizes asked input
HasCause asked (IllegalLine number) input =
    IsStopped asked input (λ sizes form lines. StopsAtIllegalLine sizes form lines number)
HasCause asked IllegalEnd input = IsStopped asked input StopsAtIllegalEnd
HasCause asked Input input = IsSome asked
HasCause asked Output input = HasAnswers asked input
HasCause asked (NoMemory error) input = IsSome asked

-- what the writers of the answers and of the faults hold, if that is known
pub record Written : Type 0 where
  pub output : Option (List ℕ)
  pub faults : Option (List ℕ)

-- this was written to the one and to the other
abbrev pub written : (output faults : Option (List ℕ)) → Written
written output faults = record { output = output; faults = faults }

-- the input has answers, and a beginning of them was written
pub record BeginsAnswers (asked : Option Options) (before after : Option (List ℕ)) (input : List ℕ) : Type 0 where
  pub text : List ℕ
  pub answered : IsAnswered asked text input
  pub begun : AppendsBeginning before after text

-- how much of the answers was written: a beginning if the output failed, else nothing
abbrev pub LeavesAnswers : Option Options → ProgramFault → (before after : Option (List ℕ)) (input : List ℕ) → Type 0
LeavesAnswers asked Output before after input = BeginsAnswers asked before after input
LeavesAnswers asked fault before after input = Keeps before after

-- The program was misused: the words ask for no options, or the input has a first bad line, or the sizes are refused.
-- A writer that held the bytes `before`, if they are known, got the text of the fault, as far as it took it.
pub record IsMisused (asked : Option Options) (before after : Option (List ℕ)) (input : List ℕ) : Type 0 where
  pub fault : ProgramFault
  pub is_misuse : fault_status_of fault ≡ 2
  pub cause : HasCause asked fault input
  pub told : AppendsBeginning before after (fault_text fault)

-- The program failed at its work. It wrote a beginning of the answers if the output failed, else nothing, and then the
-- text of the fault, as far as the writer took it.
pub record FailsAtWork (asked : Option Options) (before after : Written) (input : List ℕ) : Type 0 where
  pub fault : ProgramFault
  pub is_failure : fault_status_of fault ≡ 1
  pub cause : HasCause asked fault input
  pub left : LeavesAnswers asked fault before.output after.output input
  pub told : AppendsBeginning before.faults after.faults (fault_text fault)
