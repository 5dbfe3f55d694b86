-- What a line names is in range.
use Rattle.std.specs.Prelude.{ℕ, ◌≤◌, ◌<◌}
use Rattle.group_tree.specs.Bounds.{most_groups}
use Rattle.script_lines.specs.Verb.{Arguments, Frame, Group, words_of_command}
use Rattle.script_lines.specs.declared.line.Command.{Command}
use Rattle.script_lines.specs.declared.line.Line.{Line}
use Rattle.script_lines.specs.declared.line.Line.TheVariants.{Go, At}

-- a frame that is named has a number below `frames`, and a group that is named has a possible number
abbrev pub ArgumentsInRange : (frames : ℕ) → Arguments → Type 0
ArgumentsInRange frames (Group group) = group < most_groups
ArgumentsInRange frames (Frame frame) = frame < frames
ArgumentsInRange frames other = Unit {0}

-- all that the command names is in range
abbrev pub CommandInRange : (frames : ℕ) → Command → Type 0
CommandInRange frames command = ArgumentsInRange frames (words_of_command command).1

-- the CPU is one of this many, and all that the command names is in range
pub record CpuCommandInRange (frames cpus cpu : ℕ) (command : Command) : Type 0 where
  pub low : 1 ≤ cpu
  pub high : cpu ≤ cpus
  pub names : CommandInRange frames command

-- a line's CPU and all that its command names are in range; `go` names nothing
abbrev pub LineInRange : ℕ → ℕ → Line → Type 0
LineInRange frames cpus Go = Unit {0}
LineInRange frames cpus (At number cpu command) = CpuCommandInRange frames cpus cpu command
