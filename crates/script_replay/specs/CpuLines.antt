-- The lines of one CPU among those of all.
use Rattle.std.specs.Prelude.{◌≡◌, ℕ, Bool, ◌==◌, MatchBool, List, [], ◌++◌}
use Rattle.mem_system.specs.{CpuInRun, KnownSystem}
use Rattle.step_rules.specs.After.{Run}
use Rattle.script_lines.specs.declared.line.Command.{Command}
use Rattle.script_lines.specs.declared.line.Line.{Line}
use Rattle.script_lines.specs.declared.line.Line.TheVariants.{Go, At}
use Rattle.script_replay.specs.Lines.{InOrder}
use Rattle.script_replay.specs.Numbers.{SaysNumbered}
use Rattle.script_replay.specs.Ranges.{CommandInRange}
use Rattle.script_replay.specs.Visits.{GrewByChanges, VisitsBySteps}

-- the frames and groups that a line names are in range, whichever its CPU; `go` names nothing
abbrev pub LineCommandInRange : ℕ → Line → Type 0
LineCommandInRange frames Go = Unit {0}
LineCommandInRange frames (At number cpu command) = CommandInRange frames command

-- a CPU, and the steps that its answers have told so far
pub record ToldCpu : Type 0 where
  pub cpu : CpuInRun
  pub told : Run

-- the CPU, with these steps told so far
abbrev pub told_cpu : CpuInRun → Run → ToldCpu
told_cpu cpu told = record { cpu = cpu; told = told }

-- the command is answered with this text, and its steps are told after those before
pub record TellsCommand (system : KnownSystem) (command : Command) (before after : ToldCpu) (text : List ℕ)
    : Type 0 where
  pub steps : Run
  pub visits : VisitsBySteps system command steps before.cpu after.cpu text
  pub told : after.told ≡ before.told ++ steps

-- a line of the CPU of this number is answered with this text on its part, with its number if that is asked for; any
-- other line is skipped
abbrev pub ServesOwnLine : KnownSystem → (is_numbered : Bool) (own : ℕ) → Line → (before after : ToldCpu)
    (text : List ℕ) → Type 0
ServesOwnLine system is_numbered own Go before after text = (text ≡ []) × (after ≡ before)
ServesOwnLine system is_numbered own (At number cpu command) before after text =
    MatchBool (cpu == own) (SaysNumbered is_numbered number (TellsCommand system command before after) text)
    ((text ≡ []) × (after ≡ before))

-- the line is answered or skipped by these steps, whatever was told before, and the CPU's past has grown by them
pub record ServesOwnBySteps (system : KnownSystem) (is_numbered : Bool) (own : ℕ) (line : Line)
    (before after : CpuInRun) (text : List ℕ) : Type 0 where
  pub steps : Run
  pub serves : (told : Run)
      → ServesOwnLine system is_numbered own line (told_cpu before told) (told_cpu after (told ++ steps)) text
  pub grew : GrewByChanges before.past steps after.past

-- a worker: the number of its CPU, its part at the start, all lines, of which it serves its own, and whether their
-- answers have numbers
pub record KnownWorker : Type 0 where
  pub cpu_number : ℕ
  pub before : CpuInRun
  pub lines : List Line
  pub is_numbered : Bool

-- the worker of this CPU
abbrev pub worker : (cpu_number : ℕ) (before : CpuInRun) (lines : List Line) (is_numbered : Bool) → KnownWorker
worker cpu_number before lines is_numbered = record {
  cpu_number = cpu_number;
  before = before;
  lines = lines;
  is_numbered = is_numbered;
}

-- The worker's own lines are answered one after another, from its part at the start to the part that it left, by these
-- steps. The CPU's past has grown by them.
pub record ServesOwn (system : KnownSystem) (worker : KnownWorker) (after : CpuInRun) (told : Run) (text : List ℕ)
    : Type 0 where
  pub serves : InOrder (ServesOwnLine system worker.is_numbered worker.cpu_number) worker.lines
      (told_cpu worker.before []) (told_cpu after told) text
  pub grew : GrewByChanges worker.before.past told after.past
