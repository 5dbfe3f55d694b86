-- The faults of a run: the status and the text of each, and which call has which.
use Rattle.std.specs.Prelude.{ℕ, List, Option, Err, ⊤, ◌++◌, codes, string_bytes}
use Rattle.std.specs.Fmt.{decimal}
use Rattle.zone_blocks.specs.declared.config.Config.{Config}
use Rattle.zone_blocks.specs.Config.{IsValidConfig}
use Rattle.script_lines.specs.declared.fault.ScriptFault.TheVariants as script
use Rattle.script_lines.specs.declared.line.Line.{Line}
use Rattle.script_lines.specs.Script.{NamesFirstBadLine}
use Rattle.log_check.specs.Texts.{why_text}
use Rattle.load_options.specs.declared.fault.WordsFault.TheVariants as words
use Rattle.load_options.specs.declared.task.Options.{Options}
use Rattle.load_options.specs.Words.{GivesOptions}
use Rattle.load_run.specs.declared.fault.ProgramFault.{ProgramFault}
use Rattle.load_run.specs.declared.fault.ProgramFault.TheVariants.{Words, Script, BadLogLine, BadConfig}
use Rattle.load_run.specs.declared.fault.ProgramFault.TheVariants.{IllegalLine, IllegalEnd, Input, Output, NoMemory}
use Rattle.load_run.specs.Stopping.{OfCheckedForm, StopsAtIllegalEnd, StopsAtIllegalLine}

-- 2 if the program was misused, 1 if it failed at its work
abbrev pub fault_status_of : ProgramFault → ℕ
fault_status_of (Words (words.BadWords text)) = 2
fault_status_of (Script (script.BadLine number)) = 2
fault_status_of (BadLogLine number reason) = 2
fault_status_of BadConfig = 2
fault_status_of fault = 1

-- the text that says that the line of this number is bad
abbrev pub bad_line_text : ℕ → List ℕ
bad_line_text number = codes "bad line " ++ decimal number ++ codes "\n"

-- the text that says that a step of the line of this number isn't legal
abbrev pub illegal_line_text : ℕ → List ℕ
illegal_line_text number = codes "line " ++ decimal number ++ codes ": a step is not legal\n"

-- the text of a fault: one line, or clap's text about the words
abbrev pub fault_text : ProgramFault → List ℕ
fault_text (Words (words.BadWords text)) = string_bytes text
fault_text (Words (words.NoMemory error)) = codes "no memory\n"
fault_text (Script (script.BadLine number)) = bad_line_text number
fault_text (Script script.NoMemory) = codes "no memory\n"
fault_text (BadLogLine number reason) = codes "bad line " ++ (decimal number ++ why_text reason)
fault_text BadConfig = codes "refused 14 BadConfig\n"
fault_text (IllegalLine number) = illegal_line_text number
fault_text IllegalEnd = codes "end: a step is not legal\n"
fault_text Input = codes "input failed\n"
fault_text Output = codes "output failed\n"
fault_text (NoMemory error) = codes "no memory\n"

-- a fault of the words: they ask for no options, or memory ran out
abbrev pub IsWordsFault : Option Options → ProgramFault → Type 0
IsWordsFault asked (Words fault) = GivesOptions asked (Err fault)
IsWordsFault asked fault = ⊥

-- a fault of reading: the input failed, or memory ran out
abbrev pub IsReadFault : ProgramFault → Type 0
IsReadFault Input = ⊤
IsReadFault (NoMemory error) = ⊤
IsReadFault fault = ⊥

-- a fault of a script: its first bad line, or memory ran out
abbrev pub IsScriptFault : Config → List ℕ → ProgramFault → Type 0
IsScriptFault sizes script (Script fault) = NamesFirstBadLine sizes script fault
IsScriptFault sizes script fault = ⊥

-- a boot that took the sizes failed at these lines: memory ran out; or a step isn't legal, if each step is checked
abbrev pub IsFailedTask : Options → List Line → ProgramFault → Type 0
IsFailedTask options lines (IllegalLine number) =
    OfCheckedForm options.task options.is_numbered (λ form. StopsAtIllegalLine options.sizes form lines number)
IsFailedTask options lines IllegalEnd =
    OfCheckedForm options.task options.is_numbered (λ form. StopsAtIllegalEnd options.sizes form lines)
IsFailedTask options lines (NoMemory error) = ⊤
IsFailedTask options lines fault = ⊥

-- a fault of a boot for these lines: it refuses its sizes; or it takes them, and fails at the task
abbrev pub IsBootFault : Options → List Line → ProgramFault → Type 0
IsBootFault options lines BadConfig = ¬ IsValidConfig options.sizes
IsBootFault options lines fault = IsFailedTask options lines fault × IsValidConfig options.sizes
