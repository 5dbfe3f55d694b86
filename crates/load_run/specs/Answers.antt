-- What a script is answered.
use Rattle.std.specs.Prelude.{◌≡◌, ℕ, suc, ◌+◌, Bool, false, true, ⊤, Option, Some, List, [], ◌++◌, codes, decimal, drop, length, slice_get, take}
use Rattle.std.specs.Io.KnownBytes.{Appends}
use Rattle.zone_blocks.specs.declared.config.Config.{Config}
use Rattle.zone_blocks.specs.Config.{IsValidConfig}
use Rattle.step_rules.specs.After.{Run as StepRun}
use Rattle.boot_words.specs.{AreChangesOf, own_past, OthersFollow, zone_of_boot, KnownTable}
use Rattle.mem_machine.specs.{AgreesWithRun}
use Rattle.mem_system.specs.{CpuInRun, IsQuiet}
use Rattle.script_lines.specs.declared.line.Line.{Line}
use Rattle.script_lines.specs.Script.{IsScript, longest_script}
use Rattle.script_replay.specs.{ServesAll, SystemState, KeepsHistory, lines_so_far, known_system, form_of, form_terms, numbered_terms, AreAllAnswers}
use Rattle.script_replay.specs.{workers_from, lines_before_go}
use Rattle.script_replay.specs.declared.form.Form.{Form}
use Rattle.load_options.specs.declared.task.Options.{Options}
use Rattle.load_options.specs.declared.task.Task.{Task}
use Rattle.load_options.specs.declared.task.Task.TheVariants.{Replay, Steps, Run}
use Rattle.load_run.specs.Ending.{IsWholeRun, WritesEnd, last_words}
use Rattle.load_run.specs.Logs.{AreLoggedSteps}
use Rattle.load_run.specs.Survey.{ChangesFollow, SeesAllPasts}
-- the state after a boot
pub use Rattle.load_run.specs.Starting.{IsNewBootState}
use Rattle.load_run.specs.Refusals.{answered_status}

-- what is read of an input: a byte more than a script may have, as far as there are so many
abbrev pub bytes_read : List ℕ → List ℕ
bytes_read input = take (longest_script + 1) input

-- What a boot with these sizes answers to the lines, one after the other, with explanations or without, and then
-- reports of its end. `whole` is all steps of the lines and then of the end, from the boot on. After each line the promise
-- holds of what the machine and the CPUs show, and each group's peak and event counts are those of the run so far, as the
-- ledger of the boot is that of a run without steps.
pub record AreReplayAnswers (sizes : Config) (form : Form) (is_audited : Bool) (lines : List Line) (text : List ℕ)
    : Type 0 where
  pub frames : KnownTable
  pub start : SystemState
  pub end : SystemState
  pub run : StepRun
  pub answers : List ℕ
  pub ending : List ℕ
  pub first : IsNewBootState sizes frames start
  pub served : ServesAll (form_terms frames form) lines start end answers
  pub history : KeepsHistory (form_terms frames form) lines (lines_so_far [] start) (lines_so_far run end) answers
  pub agrees : AgreesWithRun frames [] start.locked.machine.ledger
  pub ends : WritesEnd frames is_audited end ending
  pub whole : StepRun
  pub whole_is : whole ≡ run ++ ends.ends.leaves.steps
  pub is_whole : IsWholeRun (zone_of_boot frames) (last_words ends.ends.closes) whole
  pub text_is : text ≡ answers ++ ending

-- the line that says how many steps were checked
abbrev pub checked_text : ℕ → List ℕ
checked_text steps = codes "checked " ++ (decimal steps ++ codes " steps\n")

-- What a boot with these sizes answers to the lines if each step is checked: as without the check, and then how many
-- steps were made, by the lines and by the end.
pub record AreCheckedAnswers (sizes : Config) (form : Form) (is_audited : Bool) (lines : List Line) (text : List ℕ)
    : Type 0 where
  pub shown : List ℕ
  pub replay : AreReplayAnswers sizes form is_audited lines shown
  pub text_is : text ≡ shown ++ checked_text (length replay.whole)

-- no visit is open behind the lock, and there are as many parts as CPUs
pub record IsQuietSystem (frames : KnownTable) (now : SystemState) : Type 0 where
  pub quiet : IsQuiet frames now.locked
  pub count : length now.cpus ≡ frames.cpus

-- What a boot with these sizes answers to the lines by threads. Those before `go` are served one after the other, as a
-- replay serves them, and led to `replayed`. Then all pasts were looked at, and from `at_go` each CPU was answered its own
-- among the lines from `go` on, and told its steps. Each command under the lock found the sizes of the boot. When all
-- threads had ended, at `end`, all pasts were looked at again, and from `at_end` the boot ended. The first look shows the
-- run of the lines before `go`, with steps that change nothing among them. After it, each CPU changes in the run of the
-- second look just what the steps change that its answers tell, in their order. `whole` is the second run and then the
-- steps of the end. What a CPU had seen after its lines is a beginning of the second run. So that run shows each visit that
-- served a command (`RunsShowVisits`).
pub record AreThreadAnswers (sizes : Config) (is_numbered is_audited : Bool) (lines : List Line) (text : List ℕ)
    : Type 0 where
  pub frames : KnownTable
  pub start : SystemState
  pub replayed : SystemState
  pub at_go : SystemState
  pub end : SystemState
  pub at_end : SystemState
  pub run : StepRun
  pub told : List StepRun
  pub early : List ℕ
  pub later : List ℕ
  pub ending : List ℕ
  pub first : IsNewBootState sizes frames start
  pub served : ServesAll (numbered_terms frames false is_numbered) (take (lines_before_go lines) lines) start
      replayed early
  pub history : KeepsHistory (numbered_terms frames false is_numbered) (take (lines_before_go lines) lines)
      (lines_so_far [] start) (lines_so_far run replayed) early
  pub agrees : AgreesWithRun frames [] start.locked.machine.ledger
  pub sees : SeesAllPasts frames replayed at_go
  pub tells : AreAllAnswers (known_system frames sizes)
      (workers_from 1 at_go.cpus (drop (lines_before_go lines) lines) is_numbered) end.cpus told later
  pub quiet : IsQuietSystem frames end
  pub sees_end : SeesAllPasts frames end at_end
  pub ends : WritesEnd frames is_audited at_end ending
  pub whole : StepRun
  pub whole_is : whole ≡ sees_end.beginning ++ ends.ends.leaves.steps
  pub is_whole : IsWholeRun (zone_of_boot frames) (last_words ends.ends.closes) whole
  pub changes : AreChangesOf sees.beginning run
  pub each : (index : ℕ) (cpu : CpuInRun) (steps : StepRun) → slice_get end.cpus index ≡ Some cpu
      → slice_get told index ≡ Some steps
      → ChangesFollow (suc index) sees.beginning steps sees_end.beginning
      × OthersFollow (suc index) (own_past cpu.past).seen sees_end.beginning
  pub text_is : text ≡ (early ++ later) ++ ending

-- the task is one that answers a script
abbrev pub IsOnScript : Task → Type 0
IsOnScript (Replay is_explained is_checked) = ⊤
IsOnScript Run = ⊤
IsOnScript Steps = ⊤
IsOnScript task = ⊥

-- what a boot with these sizes answers to the lines of the script for this task, with numbers or without, and reports
-- of its end if it is audited, or the steps as a log; the other tasks have no such answers
abbrev pub AreAnswers : Task → (sizes : Config) (is_audited is_numbered : Bool) (script : List ℕ) (lines : List Line)
    (text : List ℕ) → Type 0
AreAnswers (Replay is_explained false) sizes is_audited is_numbered script lines text =
    AreReplayAnswers sizes (form_of is_explained is_numbered) is_audited lines text
AreAnswers (Replay is_explained true) sizes is_audited is_numbered script lines text =
    AreCheckedAnswers sizes (form_of is_explained is_numbered) is_audited lines text
AreAnswers Run sizes is_audited is_numbered script lines text = AreThreadAnswers sizes is_numbered is_audited lines text
AreAnswers Steps sizes is_audited is_numbered script lines text = AreLoggedSteps sizes script lines text
AreAnswers task sizes is_audited is_numbered script lines text = ⊥

-- These options are asked for, a boot takes their sizes, and the input is a script for them. The text is what a boot of
-- these sizes answers to the script for the task of the options. It ends with the text of the end, if they ask for it.
pub record IsAnswered (asked : Option Options) (text input : List ℕ) : Type 0 where
  pub options : Options
  pub is_asked : asked ≡ Some options
  pub valid : IsValidConfig options.sizes
  pub lines : List Line
  pub script : IsScript options.sizes input lines
  pub answers : AreAnswers options.task options.sizes options.is_audited options.is_numbered input lines text

-- The options that are asked for have answers to the input, and a writer that held the bytes `before`, if they are
-- known, was given all of them. The status is 3 if the options are strict and some answer is a refusal, else 0.
pub record IsWritten (asked : Option Options) (status : ℕ) (before after : Option (List ℕ)) (input : List ℕ)
    : Type 0 where
  pub text : List ℕ
  pub answered : IsAnswered asked text input
  pub status_is : status ≡ answered_status answered.options.is_strict answered.options.is_numbered text
  pub written : Appends before after text
