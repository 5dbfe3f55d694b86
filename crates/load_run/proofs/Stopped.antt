-- Why a replay that is checked gives no answers. Serves `check_on_boot`, `answers_on_boot`.
use Rattle.std.proofs.Common.{◌≡◌, ◌∙◌, Bool, true, List, [], Result, Ok, Err, IfErr, ap, subst, sym}
use Rattle.zone_blocks.specs.declared.config.Config.{Config}
use Rattle.step_watch.specs.Watched.{IsNewWatch, KnownWatch}
use Rattle.mem_core.specs.Shown as core
use Rattle.mem_machine.specs.{IsFirst, with_watch}
use Rattle.boot_words.specs.{own_past, IsRunSoFar, zone_of_boot, KnownTable}
use Rattle.mem_system.specs.{IsSizedAs, first_cpus, CpuInRun, parts_of, pasts_of, KnownLocked}
use Rattle.script_lines.specs.declared.line.Line.{Line}
use Rattle.script_replay.specs.declared.form.Form.{Form}
use Rattle.script_replay.specs.declared.replays.Stopped.{Stopped}
use Rattle.script_replay.specs.declared.replays.Stopped.TheVariants as stopped
use Rattle.script_replay.specs.{StopsFor, SystemState, system_state, form_of, form_terms}
use Rattle.load_options.specs.declared.task.Options.{Options}
use Rattle.load_options.specs.declared.task.Task.{Task}
use Rattle.load_options.specs.declared.task.Task.TheVariants.{Replay}
use Rattle.load_run.specs.declared.fault.ProgramFault.{ProgramFault}
use Rattle.load_run.specs.declared.fault.ProgramFault.TheVariants.{IllegalLine, IllegalEnd, NoMemory}
use Rattle.load_run.specs.{IsFailedTask, IsCheckFault, IsNewWatchedState, OfCheckedForm, StopsAtIllegalEnd, StopsAtIllegalLine, fault_of_stop}
use Rattle.load_run.proofs.Starting.{new_watch, watched_first}

-- a new boot that was given a new watch
pub new_watched : (booted sizes : Config) (t : KnownTable) (locked : KnownLocked) (cpus : List CpuInRun) (watch : KnownWatch)
    (after : KnownLocked) → IsSizedAs booted t → booted ≡ sizes → IsFirst t locked.machine → locked.sizes ≡ booted
    → parts_of cpus ≡ first_cpus 1 booted.cpus → IsRunSoFar [] (own_past locked.machine.run.past) (pasts_of cpus)
    → IsNewWatch (core.zone_of_config sizes) watch → after ≡ record locked { machine = with_watch locked.machine watch }
    → IsNewWatchedState booted t (system_state after cpus)
new_watched booted sizes t locked cpus watch after sized same first sizes_are are so_far new is = record {
  first = record {
    sized = sized;
    machine = subst (λ (l : KnownLocked). IsFirst t l.machine) (sym is) (watched_first t locked.machine watch first);
    sizes_are = ap (λ (l : KnownLocked). l.sizes) is ∙ sizes_are;
    cpus = are;
    so_far = subst (λ (l : KnownLocked). IsRunSoFar [] (own_past l.machine.run.past) (pasts_of cpus)) (sym is) so_far;
  };
  watched = subst (λ (l : KnownLocked). IsNewWatch (zone_of_boot t) l.machine.run.watch) (sym is) (new_watch booted sizes t sized same watch new);
}

-- it stopped before the end of the lines
pub stop_told : (sizes : Config) (form : Form) (t : KnownTable) (lines : List Line) (start end : SystemState) (why : Stopped)
    → IsNewWatchedState sizes t start → StopsFor (form_terms t form) lines start end why → IsCheckFault sizes form lines (fault_of_stop why)
stop_told sizes form t lines start end (stopped.NoMemory error) new stops = tt
stop_told sizes form t lines start end (stopped.NotLegal line) new stops =
    record { frames = t; start = start; end = end; new = new; stops = stops }

module _ (options : Options) (is_explained : Bool) (booted : Config) (form : Form) (lines : List Line) (asked : options.task ≡ Replay is_explained true)
    (same : booted ≡ options.sizes) (is : form ≡ form_of is_explained options.is_numbered) where
  -- what stopped a boot in the form that the options ask for stopped their replay
  of_options : (stops : Config → Form → List Line → Type 0) → stops booted form lines
      → OfCheckedForm options.task options.is_numbered (λ f. stops options.sizes f lines)
  of_options stops stopped =
      subst (λ (task : Task). OfCheckedForm task options.is_numbered (λ f. stops options.sizes f lines)) (sym asked)
      (subst (λ (b : Config × Form). stops b.0 b.1 lines) (λ i. (same i, is i)) stopped)

  failed : (fault : ProgramFault) → IsCheckFault booted form lines fault → IsFailedTask options lines fault
  failed (NoMemory error) why = tt
  failed (IllegalLine number) why = of_options (λ sizes f l. StopsAtIllegalLine sizes f l number) why
  failed IllegalEnd why = of_options StopsAtIllegalEnd why
  failed fault why = absurd why

  pub check_failed : {T : Type 0} (r : Result T ProgramFault) → IfErr r (IsCheckFault booted form lines) → IfErr r (IsFailedTask options lines)
  check_failed (Ok x) why = tt
  check_failed (Err fault) why = failed fault why
