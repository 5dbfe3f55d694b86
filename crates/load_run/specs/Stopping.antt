-- Why a boot whose steps are checked gives no answers.
use Rattle.std.specs.Prelude.{◌≡◌, ℕ, Bool, true, false, List, ⊤}
use Rattle.zone_blocks.specs.declared.config.Config.{Config}
use Rattle.boot_words.specs.{zone_of_boot, KnownTable}
use Rattle.step_watch.specs.Watched.{IsNewWatch, has_legal_steps}
use Rattle.script_lines.specs.declared.line.Line.{Line}
use Rattle.script_replay.specs.declared.form.Form.{Form}
use Rattle.script_replay.specs.declared.replays.Stopped.{Stopped}
use Rattle.script_replay.specs.declared.replays.Stopped.TheVariants as stopped
use Rattle.script_replay.specs.{HasLegalHistory, StopsFor, SystemState, form_of, form_terms}
use Rattle.load_options.specs.declared.task.Task.{Task}
use Rattle.load_options.specs.declared.task.Task.TheVariants.{Replay}
use Rattle.load_run.specs.declared.boot_end.BootEnd.{BootEnd}
use Rattle.load_run.specs.declared.fault.ProgramFault.{ProgramFault}
use Rattle.load_run.specs.declared.fault.ProgramFault.TheVariants.{NoMemory, IllegalLine, IllegalEnd}
use Rattle.load_run.specs.Ending.{EndsHeld}
use Rattle.load_run.specs.Starting.{IsNewBootState}

-- the state after a boot with these sizes whose watch checks each step from the first on
pub record IsNewWatchedState (sizes : Config) (table : KnownTable)
    (start : SystemState) : Type 0 where
  pub first : IsNewBootState sizes table start
  pub watched : IsNewWatch (zone_of_boot table) start.locked.machine.run.watch

-- A boot with these sizes served the lines up to one with a step that the watch didn't allow, and no line after it.
-- That line has this number.
pub record StopsAtIllegalLine (sizes : Config) (form : Form) (lines : List Line) (number : ℕ) : Type 0 where
  pub frames : KnownTable
  pub start : SystemState
  pub end : SystemState
  pub new : IsNewWatchedState sizes frames start
  pub stops : StopsFor (form_terms frames form) lines start end (stopped.NotLegal number)

-- A boot with these sizes served the lines by legal steps, and ended. The watch didn't allow a step of the end.
pub record StopsAtIllegalEnd (sizes : Config) (form : Form) (lines : List Line) : Type 0 where
  pub frames : KnownTable
  pub start : SystemState
  pub end : SystemState
  pub answers : List ℕ
  pub ended : BootEnd
  pub new : IsNewWatchedState sizes frames start
  pub history : HasLegalHistory (form_terms frames form) lines start end answers
  pub ends : EndsHeld frames end ended
  pub not_legal : has_legal_steps ends.emptied.machine.run.watch ≡ false

-- why a boot with these sizes gives no answers to the lines
abbrev pub IsCheckFault : Config → Form → List Line → ProgramFault → Type 0
IsCheckFault sizes form lines (NoMemory error) = ⊤
IsCheckFault sizes form lines (IllegalLine number) = StopsAtIllegalLine sizes form lines number
IsCheckFault sizes form lines IllegalEnd = StopsAtIllegalEnd sizes form lines
IsCheckFault sizes form lines fault = ⊥

-- the fault for which a replay that is checked stopped
abbrev pub fault_of_stop : Stopped → ProgramFault
fault_of_stop (stopped.NoMemory error) = NoMemory error
fault_of_stop (stopped.NotLegal line) = IllegalLine line

-- the task is a replay that is checked, and this is so of the form of its answers
abbrev pub OfCheckedForm : Task → (is_numbered : Bool) → (Form → Type 0) → Type 0
OfCheckedForm (Replay is_explained true) is_numbered is_so = is_so (form_of is_explained is_numbered)
OfCheckedForm task is_numbered is_so = ⊥
