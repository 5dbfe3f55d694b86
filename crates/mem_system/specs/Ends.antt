-- How a system ends. Each CPU is settled, then each CPU's list is returned and its stock drained, each in a visit under
-- the lock, and then the table is closed.
use Rattle.std.specs.Prelude.{◌≡◌, ℕ, ◌+◌, ◌≤◌, ◌<◌, is_some, true, List, [], ◌∷◌, ◌++◌, length, min, sum_by, slice_index, All}
use Rattle.step_rules.specs.declared.step.Action.TheVariants.{Lock, Unlock}
use Rattle.step_rules.specs.declared.step.Answer.TheVariants.{Done}
use Rattle.step_rules.specs.{is_unheld, one_if, Run, state_of, cpu_makes}
use Rattle.stock_word.specs.declared.stock.Stock.{Stock}
use Rattle.stock_word.specs.{word_of, stock_pages_of, stock_index, report_index}
use Rattle.group_tree.specs.Room.{max_count}
use Rattle.boot_words.specs.{zone_of_boot, cpu_past, own_past, hide, words_in, IsClosedRun, IsEndOfRun, pasts_of_cpus, KnownCpuSeat, IsRunSoFar}
use Rattle.boot_words.specs.Tables.{KnownTable}
use Rattle.cpu_part.specs.Cpus.{KnownCpuLists, IsIdle}
use Rattle.cpu_part.specs.declared.boot_name.Tables.{Tables}
use Rattle.mem_system.specs.declared.boot_end.Pinned.{Pinned}
use Rattle.mem_machine.specs.{KnownMachine, IsConsistent, IsShownBy, home_of, part_at, with_run, KnownRun, Settles, UnlistsMany, Drains, IsDrained}
use Rattle.mem_machine.specs.{stock_group, open_steps, shut_steps, drain_list_steps, drain_steps, frames_free, frames_in_groups, NoneLentTo}
use Rattle.mem_machine.specs.{VisitState, visit_state, VisitMakes}
use Rattle.mem_system.specs.declared.audit.Audit.{Audit}
use Rattle.mem_system.specs.Locked.{KnownLocked, IsQuiet}
use Rattle.mem_system.specs.Commands.{Transition, BySteps}
use Rattle.mem_system.specs.Cpus.{CpuInRun, VisitsInRun, between_locks, parts_of, pasts_of}
use Rattle.mem_system.specs.Visits.{with_run_at, visit_steps}
use Rattle.step_watch.specs.Watched.{Watches}

-- how many pins the CPUs have together
abbrev pub pins_of_all : List KnownCpuLists → ℕ
pins_of_all cpus = sum_by (λ cpu. length cpu.pins) cpus

-- how many fresh frames the CPUs put back on their own lists
abbrev pub drops_of : List KnownCpuLists → ℕ
drops_of cpus = sum_by (λ cpu. cpu.drops) cpus

-- pins remain at these CPUs, and all parts of the boot are returned as they were
pub record IsPinned {N : Type 0} {boot : _} (behind : KnownLocked) (table : Tables N boot) (all : List CpuInRun)
    (pinned : Pinned N boot) : Type 0 where
  pub pins : pinned.pins ≡ pins_of_all (parts_of all)
  pub some_pin : 1 ≤ pinned.pins
  pub locked : pinned.locked ≡ behind
  pub tables : pinned.tables ≡ table
  pub cpus : pinned.cpus.items ≡ all

-- the CPU is settled in a visit
pub record SettlesInVisit (call : Transition VisitState) : Type 0 where
  pub settled : KnownMachine
  pub seen : KnownRun
  pub settles : Settles call.table (with_run_at call.before seen) (visit_state settled call.after.cpu)
  pub machine : call.after.machine ≡ with_run settled call.after.machine.run
  pub steps_are : call.steps ≡ visit_steps call.table call.before []

-- in a visit, all frames of the CPU's list are returned to the zone, and then its stock is drained
pub record Empties (call : Transition VisitState) : Type 0 where
  pub emptied : KnownMachine
  pub seen : KnownRun
  pub takes : UnlistsMany call.before.cpu.list (with_run_at call.before seen)
      (visit_state emptied call.after.cpu)
  pub pages : ℕ
  pub drained : KnownMachine
  pub drains : Drains call.table call.before.cpu.number pages emptied drained
  pub machine : call.after.machine ≡ with_run drained call.after.machine.run
  pub steps_are : call.steps ≡ open_steps call.before.cpu.number
      ++ (drain_list_steps call.before.cpu.number call.before.cpu.list
      ++ (drain_steps call.before.cpu.number (stock_group call.table emptied call.before.cpu.number) pages
      ++ shut_steps call.before.cpu.number))

-- the machine, and a CPU that doesn't hold its lock
pub record MachineAndCpu : Type 0 where
  pub machine : KnownMachine
  pub cpu : CpuInRun

-- the machine and this CPU
abbrev pub machine_and_cpu : KnownMachine → CpuInRun → MachineAndCpu
machine_and_cpu machine cpu = record { machine = machine; cpu = cpu }

-- A visit that does this is made under the lock. The CPU takes the lock before it and releases it after it, in the run,
-- and the machine's watch takes both steps.
pub record VisitsUnderLock (table : KnownTable) (Does : Transition VisitState → Type 0) (before after : MachineAndCpu)
    : Type 0 where
  pub found : KnownRun
  pub left : KnownMachine
  pub holder : (cpu_past found.past).number ≡ before.cpu.part.number
  pub lock : Watches before.machine.run.watch (cpu_makes before.cpu.part.number Lock Done ∷ []) found.watch
  pub visit : BySteps VisitMakes table Does (visit_state (with_run before.machine found) before.cpu.part)
      (visit_state left after.cpu.part)
  pub unlock : Watches left.run.watch (cpu_makes before.cpu.part.number Unlock Done ∷ []) after.machine.run.watch
  pub machine : after.machine ≡ with_run left after.machine.run
  pub run : VisitsInRun before.cpu.part.number visit.steps before.machine.run.past before.cpu.past
      after.machine.run.past after.cpu.past

-- `Visit` leads the machine and the first of several CPUs to a machine between, of which `Rest` holds
pub record VisitsFirst (Visit : MachineAndCpu → MachineAndCpu → Type 0) (before : KnownMachine)
    (cpu cpu_left : CpuInRun)
    (Rest : KnownMachine → Type 0) : Type 0 where
  pub between : KnownMachine
  pub first : Visit (machine_and_cpu before cpu) (machine_and_cpu between cpu_left)
  pub rest : Rest between

-- Each of these CPUs is visited as `Visit` says, one after the other. This leads from one machine with the CPUs to
-- another machine with the CPUs as they are left.
abbrev pub ForEachCpu : (Visit : MachineAndCpu → MachineAndCpu → Type 0) (before : KnownMachine) (cpus : List CpuInRun)
    (after : KnownMachine) (left : List CpuInRun) → Type 0
ForEachCpu Visit before [] after [] = after ≡ before
ForEachCpu Visit before (cpu ∷ cpus) after (cpu_left ∷ left) =
    VisitsFirst Visit before cpu cpu_left (λ between. ForEachCpu Visit between cpus after left)
ForEachCpu Visit before cpus after left = ⊥

-- the steps of the visits under the lock, one CPU after the other
abbrev pub steps_of_visits : (table : KnownTable) (Does : Transition VisitState → Type 0) (before : KnownMachine)
    (cpus : List CpuInRun) (after : KnownMachine) (left : List CpuInRun)
    → ForEachCpu (VisitsUnderLock table Does) before cpus after left → Run
steps_of_visits table Does before [] after left visits = []
steps_of_visits table Does before (cpu ∷ cpus) after [] visits = []
steps_of_visits table Does before (cpu ∷ cpus) after (cpu_left ∷ left) visits =
    between_locks cpu.part.number visits.first.visit.steps
    ++ steps_of_visits table Does visits.between cpus after left visits.rest

-- the CPU has no fresh frame, no back frame and no pin
pub record IsSettledUnpinned (cpu : KnownCpuLists) : Type 0 where
  pub none_fresh : cpu.fresh ≡ []
  pub none_back : cpu.back ≡ []
  pub no_pin : cpu.pins ≡ []

-- the CPU has no frame on any of its lists and no pin, no frame is lent to it, and its stock is drained
pub record IsEmptied (table : KnownTable) (machine : KnownMachine) (cpu : KnownCpuLists) : Type 0 where
  pub idle : IsIdle cpu
  pub none_lent : NoneLentTo cpu.number machine.frame_states
  pub drained : IsDrained table machine cpu.number

-- no frame was lent to a CPU that had none, and no drained stock was filled
pub record LendsAndFillsNone (table : KnownTable) (before after : KnownMachine) : Type 0 where
  pub none_lent : (cpu : ℕ) → NoneLentTo cpu before.frame_states → NoneLentTo cpu after.frame_states
  pub drained : (cpu : ℕ) → IsDrained table before cpu → IsDrained table after cpu

-- The audit counts the machine's frames, last puts and freezes. Its drops are the machine's killed fresh frames
-- and the CPUs' own drops, which its returns have too. A count stays at its greatest value.
pub record IsAuditOf (table : KnownTable) (machine : KnownMachine) (own : ℕ) (audit : Audit) : Type 0 where
  pub frames : audit.frames ≡ table.frames
  pub free : audit.free ≡ frames_free machine.frame_states
  pub charged : audit.charged ≡ frames_in_groups machine.frame_states
  pub last_puts : audit.last_puts ≡ machine.counts.last_puts
  pub freezes : audit.freezes ≡ machine.counts.freezes
  pub drops : audit.drops ≡ min (machine.counts.killed_fresh + own) max_count
  pub returns : audit.returns ≡ min (machine.counts.returns + own) max_count

-- Each frame is free or charged. The returns are the last puts, freezes and drops together, or the greatest count if
-- that is less.
pub record AddsUp (audit : Audit) : Type 0 where
  pub places : audit.free + audit.charged ≡ audit.frames
  pub balances : audit.returns ≡ min (audit.last_puts + audit.freezes + audit.drops) max_count

-- The table is closed with the machine's seat and those of these CPUs. The machine was consistent. There is one legal run
-- whose state has just these words, and each past is a beginning of it; there is no other past.
pub record IsClosed (table : KnownTable) (machine : KnownMachine) (cpus : List KnownCpuSeat) (words : List ℕ) : Type 0 where
  pub consistent : IsConsistent table machine
  pub closed : IsClosedRun (zone_of_boot table) words (machine.run.past.pasts ++ pasts_of_cpus cpus)

-- The words of the frames at the end: a frame's word is 1, the zone's reference, if the frame heads a kept unit, else 0.
abbrev pub AreLastWords : KnownTable → KnownMachine → List ℕ → Type 0
AreLastWords table machine frame_words = (frame : ℕ) → frame < table.frames
    → slice_index frame_words frame ≡ one_if (is_some (home_of machine.links frame))

-- the CPU's stock word holds no page, and its report word is 0
pub record HasEmptyWords (stock_words : List ℕ) (cpu : ℕ) : Type 0 where
  pub stock : Stock
  pub encoded : slice_index stock_words (stock_index cpu) ≡ word_of stock
  pub empty : stock_pages_of stock ≡ 0
  pub none_reported : slice_index stock_words (report_index cpu) ≡ 0

-- no page is left in the CPU's words, or in its book
pub record HasNoPage (table : KnownTable) (machine : KnownMachine) (stock_words : List ℕ) (cpu : ℕ) : Type 0 where
  pub words : HasEmptyWords stock_words cpu
  pub book : (part_at table machine cpu).book ≡ 0

-- a boot whose last visits are made: its machine, the CPUs, and how many fresh frames the CPUs put back on their own
-- lists
pub record KnownEmptiedBoot : Type 0 where
  pub machine : KnownMachine
  pub cpus : List CpuInRun
  pub drops : ℕ

-- The last visits of a boot without pins, each under the lock. Each CPU is settled, then each CPU's list is returned
-- and its stock drained, by steps that the machine's counts follow. These are all steps, in order, and the machine's
-- watch took them. The run so far goes on by them.
pub record MakesLastVisits (table : KnownTable) (locked : KnownLocked)
    (cpus : List CpuInRun)
    (emptied : KnownEmptiedBoot) : Type 0 where
  pub quiet : IsQuiet table locked
  pub no_pin : pins_of_all (parts_of cpus) ≡ 0
  pub settled : KnownMachine
  pub settled_cpus : List CpuInRun
  pub settles : ForEachCpu (VisitsUnderLock table SettlesInVisit) locked.machine cpus settled settled_cpus
  pub empties : ForEachCpu (VisitsUnderLock table Empties) settled settled_cpus emptied.machine emptied.cpus
  pub steps : Run
  pub steps_are : steps
      ≡ steps_of_visits table SettlesInVisit locked.machine cpus settled settled_cpus settles
      ++ steps_of_visits table Empties settled settled_cpus emptied.machine emptied.cpus empties
  pub watched : Watches locked.machine.run.watch steps emptied.machine.run.watch
  pub drops : emptied.drops ≡ min (drops_of (parts_of cpus)) max_count
  pub so_far : (earlier : Run) → IsRunSoFar earlier (own_past locked.machine.run.past) (pasts_of cpus)
      → IsRunSoFar (earlier ++ steps) (own_past emptied.machine.run.past) (pasts_of emptied.cpus)

-- The table of a boot is closed after its last visits. No frame is lent to anyone, and no stock has a page. There is one
-- legal run whose state has just the last words, and the pasts of the zone and of all CPUs are beginnings of it. It leaves
-- the lock free, and every CPU's own part hidden, its last state is what the machine shows. The audit counts what the
-- machine and the CPUs counted, and it adds up.
pub record Closes (table : KnownTable) (emptied : KnownEmptiedBoot) (audit : Audit) : Type 0 where
  pub all_emptied : All (λ cpu. IsEmptied table emptied.machine cpu) (parts_of emptied.cpus)
  pub count : length emptied.cpus ≡ table.cpus
  pub none_lent : (cpu : ℕ) → NoneLentTo cpu emptied.machine.frame_states
  pub words : List ℕ
  pub end : IsEndOfRun (zone_of_boot table) words (own_past emptied.machine.run.past ∷ pasts_of emptied.cpus)
  pub no_page : (cpu : ℕ) → 1 ≤ cpu → cpu ≤ table.cpus
      → HasNoPage table emptied.machine (words_in (zone_of_boot table) words).stocks cpu
  pub last_words : AreLastWords table emptied.machine (words_in (zone_of_boot table) words).frames
  pub zone : (own_past emptied.machine.run.past).number ≡ 0
  pub free : is_unheld (state_of (zone_of_boot table) end.run).hold ≡ true
  pub left : IsShownBy table emptied.machine (hide (state_of (zone_of_boot table) end.run))
  pub counted : IsAuditOf table emptied.machine emptied.drops audit
  pub adds_up : AddsUp audit

-- the end of a boot without pins: its last visits are made, and then its table is closed
pub record Ends (table : KnownTable) (locked : KnownLocked) (cpus : List CpuInRun)
    (audit : Audit) : Type 0 where
  pub emptied : KnownEmptiedBoot
  pub visits : MakesLastVisits table locked cpus emptied
  pub closes : Closes table emptied audit
