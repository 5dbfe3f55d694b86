-- What the lines of a script name is there, by the sizes that it was read with.
use Rattle.std.proofs.Common.{◌≡◌, ℕ, zero, suc, List, [], ◌∷◌, All, Option, Some, ◌<◌, arith, rules, subst}
use Rattle.std.specs.Prelude.{IfSome}
use Rattle.std.specs.List.{AllZip}
use Rattle.zone_blocks.specs.declared.config.Config.{Config}
use Rattle.mem_system.specs.{NamesFrameBelow}
use Rattle.mem_system.specs.declared.text_command.TextCommand.{TextCommand}
use Rattle.script_lines.specs.declared.line.Command.{Command}
use Rattle.script_lines.specs.declared.line.Command.TheVariants.{OnFrame}
use Rattle.script_lines.specs.declared.line.FrameAct.TheVariants.{Owner}
use Rattle.script_lines.specs.declared.line.Line.{Line}
use Rattle.script_lines.specs.declared.line.Line.TheVariants.{Go, At}
use Rattle.script_lines.specs.Script.{IsCommandText, IsLineText, IsScript, asking_texts, texts_of}
use Rattle.script_lines.specs.Verb.{Arguments, Frame, Group, IsNameWith, its_verb, name_of_verb, words_of_command}
use Rattle.script_replay.specs.{locked_command_of, head_named, ArgumentsInRange, CommandInRange, LineInRange}

-- what the command's text names is in range
said_in_range : (sizes : Config) (name : List ℕ) (arguments : Arguments) (text : List ℕ) → IsNameWith sizes name arguments text
    → ArgumentsInRange sizes.frames arguments
said_in_range sizes name (Group group) text is = is.2.possible
said_in_range sizes name (Frame frame) text is = is.2.in_zone
said_in_range sizes name arguments text is = tt

named_in_range : (sizes : Config) (command : Command) (text : List ℕ) → IsCommandText sizes command text → CommandInRange sizes.frames command
named_in_range sizes command text is = said_in_range sizes (name_of_verb (its_verb command)) (words_of_command command).1 text is

named_below : (frames : ℕ) (command : Command) → CommandInRange frames command → IfSome (locked_command_of command) (NamesFrameBelow frames)
named_below frames (OnFrame Owner frame) named = named
named_below frames command named = search rules

-- and what the machine's command names is in the zone
pub locked_command_in_zone : (frames : ℕ) (command : Command) (cmd : TextCommand) → locked_command_of command ≡ Some cmd → CommandInRange frames command → NamesFrameBelow frames cmd
locked_command_in_zone frames command cmd is named = subst (λ (found : Option TextCommand). IfSome found (NamesFrameBelow frames)) is (named_below frames command named)

-- a frame that has to be the head of a kept unit is one of the zone
pub head_in_zone : (frames : ℕ) (command : Command) → CommandInRange frames command → IfSome (head_named command) (λ frame. frame < frames)
head_in_zone frames (OnFrame Owner frame) named = tt
head_in_zone frames command named = search rules

-- the same of a line
pub line_there : (sizes : Config) (n : ℕ) (line : Line) (text : List ℕ) → IsLineText sizes n line text → LineInRange sizes.frames sizes.cpus line
line_there sizes n Go text is = tt
line_there sizes n (At number cpu command) text is =
    record { low = is.1.low; high = is.1.high; names = named_in_range sizes command is.1.rest is.1.command_text }

lines_there : (sizes : Config) (texts : List (ℕ × List ℕ)) (lines : List Line) → AllZip (λ t line. IsLineText sizes t.0 line t.1) texts lines
    → All (LineInRange sizes.frames sizes.cpus) lines
lines_there sizes texts [] zip k d h = absurd (omega arith)
lines_there sizes [] (line ∷ lines) zip k d h = absurd zip
lines_there sizes (text ∷ texts) (line ∷ lines) zip zero d h = line_there sizes text.0 line text.1 zip.0
lines_there sizes (text ∷ texts) (line ∷ lines) zip (suc k) d h = lines_there sizes texts lines zip.1 k d (omega arith)

-- the same for all lines of a script
pub script_there : (sizes : Config) (script : List ℕ) (lines : List Line) → IsScript sizes script lines → All (LineInRange sizes.frames sizes.cpus) lines
script_there sizes script lines is = lines_there sizes (asking_texts (texts_of script)) lines is.says
