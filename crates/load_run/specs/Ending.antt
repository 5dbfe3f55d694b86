-- How a run of the program ends, and what it writes about that.
use Rattle.std.specs.Prelude.{◌≡◌, ℕ, Bool, true, false, List, [], ◌∷◌, ◌++◌, codes, ◌==◌, if◌then◌else◌}
use Rattle.std.specs.Fmt.{decimal}
use Rattle.frame_word.specs.declared.answers.Put.{Put}
use Rattle.boot_words.specs.{own_past, words_in, zone_of_boot, IsRunOf, GainsSteps, IsRunSoFar, KnownTable}
use Rattle.boot_words.specs.Words.{Words}
use Rattle.cpu_part.specs.Calls.{UnpinAnswers}
use Rattle.step_rules.specs.declared.step.Action.TheVariants as step
use Rattle.step_rules.specs.{Run, Zone, cpu_makes}
use Rattle.mem_core.specs.Promise.{AlwaysKeepsPromise}
use Rattle.step_watch.specs.Watched.{Watches, has_legal_steps, steps_seen}
use Rattle.mem_machine.specs.Machines.{KnownMachine, with_run}
use Rattle.mem_history.specs.Leading.{put_answer}
use Rattle.mem_system.specs.declared.audit.Audit.{Audit}
use Rattle.mem_system.specs.{CpuInRun, parts_of, pasts_of, Closes, ForEachCpu, KnownEmptiedBoot, MachineAndCpu, MakesLastVisits, machine_and_cpu}
use Rattle.mem_system.specs.{pins_of_all, KnownLocked}
use Rattle.script_replay.specs.Lines.{HasRun, SystemState, system_state}
use Rattle.load_run.specs.declared.boot_end.BootEnd.{BootEnd}
use Rattle.load_run.specs.declared.boot_end.CheckedSteps.{CheckedSteps}

-- the step of a put of this frame
abbrev pub put_steps : (cpu frame : ℕ) → Put → Run
put_steps cpu frame answer = cpu_makes cpu (step.Put frame) (put_answer answer) ∷ []

-- A pin of this frame is put, and the machine's watch takes the step. The pasts of the zone and of the CPU gain it after
-- all that the zone's past had.
pub record PutsHeldPin (frame : ℕ) (before after : MachineAndCpu) : Type 0 where
  pub answer : Put
  pub cpu : UnpinAnswers frame answer before.cpu.part after.cpu.part
  pub last : after.cpu.last ≡ before.cpu.last
  pub machine : after.machine ≡ with_run before.machine after.machine.run
  pub watched : Watches before.machine.run.watch (put_steps before.cpu.part.number frame answer) after.machine.run.watch
  pub gains : GainsSteps (own_past before.machine.run.past) (own_past before.cpu.past)
      (put_steps before.cpu.part.number frame answer) (own_past after.machine.run.past) (own_past after.cpu.past)

-- a pin of this frame is put, and then what is to be put after it
pub record PutsFirstAndRest (frame : ℕ) (puts_rest : (before after : MachineAndCpu) → Type 0)
    (before after : MachineAndCpu) : Type 0 where
  pub between : MachineAndCpu
  pub first : PutsHeldPin frame before between
  pub rest : puts_rest between after

-- a pin of each of these frames is put, one after the other
abbrev pub PutsEach : List ℕ → (before after : MachineAndCpu) → Type 0
PutsEach [] before after = after ≡ before
PutsEach (frame ∷ frames) before after = PutsFirstAndRest frame (PutsEach frames) before after

-- the steps of these puts
abbrev pub steps_of_puts : (frames : List ℕ) (before after : MachineAndCpu) → PutsEach frames before after → Run
steps_of_puts [] before after puts = []
steps_of_puts (frame ∷ frames) before after puts =
    put_steps before.cpu.part.number frame puts.first.answer ++ steps_of_puts frames puts.between after puts.rest

-- every pin of the CPU is put
pub record PutsAllPins (before after : MachineAndCpu) : Type 0 where
  pub frames : List ℕ
  pub puts : PutsEach frames before after
  pub none_left : after.cpu.part.pins ≡ []

-- the steps of the puts of all pins, one CPU after the other
abbrev pub steps_of_all_puts : (before : KnownMachine) (cpus : List CpuInRun) (after : KnownMachine)
    (left : List CpuInRun) → ForEachCpu PutsAllPins before cpus after left → Run
steps_of_all_puts before [] after left puts = []
steps_of_all_puts before (cpu ∷ cpus) after [] puts = []
steps_of_all_puts before (cpu ∷ cpus) after (cpu_left ∷ left) puts =
    steps_of_puts puts.first.frames (machine_and_cpu before cpu) (machine_and_cpu puts.between cpu_left) puts.first.puts
    ++ steps_of_all_puts puts.between cpus after left puts.rest

-- Nothing is left at any CPU, after so many pins were held. Every pin is put, one CPU after the other, and then the
-- last visits are made. These are all steps, in order, and the machine's watch took them. If earlier steps were the run
-- so far, these go on from there.
pub record LeavesNothing (table : KnownTable) (before : SystemState) (held : ℕ)
    (emptied : KnownEmptiedBoot) : Type 0 where
  pub held_are : held ≡ pins_of_all (parts_of before.cpus)
  pub locked : KnownLocked
  pub cpus : List CpuInRun
  pub puts : ForEachCpu PutsAllPins before.locked.machine before.cpus locked.machine cpus
  pub sizes : locked.sizes ≡ before.locked.sizes
  pub free : held ≡ 0 → system_state locked cpus ≡ before
  pub visits : MakesLastVisits table locked cpus emptied
  pub steps : Run
  pub steps_are : steps
      ≡ steps_of_all_puts before.locked.machine before.cpus locked.machine cpus puts ++ visits.steps
  pub watched : Watches before.locked.machine.run.watch steps emptied.machine.run.watch
  pub so_far : (earlier : Run) → HasRun earlier before
      → IsRunSoFar (earlier ++ steps) (own_past emptied.machine.run.past) (pasts_of emptied.cpus)

-- The boot ended, and says how many pins were held. Every pin was put, the last visits were made, and then the table
-- was closed.
pub record EndsHeld (table : KnownTable) (before : SystemState)
    (ended : BootEnd) : Type 0 where
  pub emptied : KnownEmptiedBoot
  pub leaves : LeavesNothing table before ended.held emptied
  pub closes : Closes table emptied ended.audit

-- the words of the table when it was closed
abbrev pub last_words : {table : KnownTable} {emptied : KnownEmptiedBoot} {audit : Audit}
    → Closes table emptied audit → Words
last_words {table} closes = words_in (zone_of_boot table) closes.words

-- All steps of a boot, up to its end: a legal run, which led to these words of the boot's table. The promise holds after
-- each beginning of the run that leaves the lock free.
pub record IsWholeRun (zone : Zone) (words : Words) (run : Run) : Type 0 where
  pub leads : IsRunOf zone words run
  pub promise : AlwaysKeepsPromise zone run

-- a boot ended from this state, and this is what the machine's watch saw of all steps
pub record EndsChecked (table : KnownTable) (before : SystemState) (ended : BootEnd)
    (seen : CheckedSteps)
    : Type 0 where
  pub ends : EndsHeld table before ended
  pub is_legal : seen.is_legal ≡ has_legal_steps ends.emptied.machine.run.watch
  pub steps : seen.steps ≡ steps_seen ends.emptied.machine.run.watch

-- how many frames there are, and where
abbrev pub audit_places_text : Audit → List ℕ
audit_places_text audit =
    codes "audit frames " ++ (decimal audit.frames ++ (codes " free " ++ (decimal audit.free
    ++ (codes " charged " ++ (decimal audit.charged ++ codes "\n")))))

-- how often the last reference of a unit was dropped, by what, and how often a unit was freed
abbrev pub audit_counts_text : Audit → List ℕ
audit_counts_text audit =
    codes "audit puts " ++ (decimal audit.last_puts ++ (codes " freezes " ++ (decimal audit.freezes ++ (codes " drops "
    ++ (decimal audit.drops ++ (codes " returns " ++ (decimal audit.returns ++ codes "\n")))))))

-- the two lines of an audit
abbrev pub audit_text : Audit → List ℕ
audit_text audit = audit_places_text audit ++ audit_counts_text audit

-- the line of pins that were held, if there were any
abbrev pub held_text : ℕ → List ℕ
held_text held = if held == 0 then [] else codes "held " ++ decimal held ++ codes "\n"

-- what is written about the end: the pins that were held and the audit, if the run is audited
abbrev pub boot_end_text : Bool → BootEnd → List ℕ
boot_end_text true ended = held_text ended.held ++ audit_text ended.audit
boot_end_text false ended = []

-- a boot ended from this state, and the text is what is written about that
pub record WritesEnd (table : KnownTable) (is_audited : Bool) (before : SystemState)
    (text : List ℕ) : Type 0 where
  pub ended : BootEnd
  pub ends : EndsHeld table before ended
  pub text_is : text ≡ boot_end_text is_audited ended
