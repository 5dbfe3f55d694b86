-- What the CPU that holds the lock sees of the machine and its own part, in the words of the rules, and which steps
-- lead from one machine to another.
use Rattle.std.specs.Prelude.{◌≡◌, ℕ, ◌==◌, ◌&&◌, nat_le, true, if◌then◌else◌, unwrap_or}
use Rattle.boot_words.specs.Tables.{KnownTable}
use Rattle.cpu_part.specs.{KnownCpuLists, HasOwn}
use Rattle.step_rules.specs.declared.phase.Hold.TheVariants.{HeldBy}
use Rattle.step_rules.specs.declared.phase.Way.TheVariants.{OnList}
use Rattle.step_rules.specs.declared.phase.Stage.TheVariants.{FreshAt, Live, BackAt}
use Rattle.step_rules.specs.declared.phase.Phase.{Phase}
use Rattle.step_rules.specs.declared.phase.Phase.TheVariants as phase
use Rattle.step_rules.specs.State.{State, times, visits}
use Rattle.step_rules.specs.After.{Run}
use Rattle.boot_words.specs.Pasts.{IsHeld, cpu_past, local_by_pasts}
use Rattle.mem_machine.specs.Noted.{Records}
-- the lists of local steps that lead from one local state to another
pub use Rattle.step_rules.specs.Reaches.{IsLocalRun}
-- the machine, and the part of the CPU that holds its lock
pub use Rattle.mem_machine.specs.Machines.{VisitState, visit_state}
use Rattle.mem_machine.specs.declared.frame_state.FrameState.{FrameState}
use Rattle.mem_machine.specs.declared.frame_state.FrameState.TheVariants.{Free, Lent, Head, Tail}
use Rattle.mem_machine.specs.Machines.{KnownMachine, stock_group}
use Rattle.mem_machine.specs.Transitions.{BySteps, Transition}
use Rattle.mem_machine.specs.Following.{FollowsSteps}
use Rattle.mem_machine.specs.Counting.{counts_along}

-- the local state: what the CPU that holds the lock sees, by the machine's past
abbrev pub local_of : KnownTable → KnownMachine → State
local_of table machine = local_by_pasts table machine.run.past

-- the number of the CPU that holds the lock, by the machine's past
abbrev pub lock_holder : KnownMachine → ℕ
lock_holder machine = (cpu_past machine.run.past).number

-- These steps, of the CPU that holds the lock and of the zone's seat, lead from one machine to another. They are local
-- steps between the two local states, and the same CPU holds the lock. The ledger's peaks and event counts follow them,
-- and so do the machine's counts. The pasts have grown by them, and the machine's watch took them, in this order.
pub record Makes (table : KnownTable) (before : KnownMachine) (steps : Run) (after : KnownMachine) : Type 0 where
  pub holder : lock_holder after ≡ lock_holder before
  pub leads : IsLocalRun (lock_holder before) (local_of table before) steps (local_of table after)
  pub follows : FollowsSteps (local_of table before) before.ledger steps after.ledger
  pub counts : after.counts ≡ counts_along (local_of table before) steps before.counts
  pub noted : Records table before.run steps after.run

-- these steps lead from the machine of one visit state to that of another
abbrev pub VisitMakes : KnownTable → VisitState → Run → VisitState → Type 0
VisitMakes table before steps after = Makes table before.machine steps after.machine

-- some steps lead from the first machine and CPU to the others, and `Does` holds of that transition
abbrev pub VisitDoes : KnownTable → (Transition VisitState → Type 0) → KnownMachine → KnownCpuLists → KnownMachine → KnownCpuLists
    → Type 0
VisitDoes table Does machine cpu machine_after cpu_after =
    BySteps VisitMakes table Does (visit_state machine cpu) (visit_state machine_after cpu_after)

-- the CPU holds the lock, and its lists and pins are its own in what it sees
pub record Holds (table : KnownTable) (machine : KnownMachine) (cpu : KnownCpuLists) : Type 0 where
  pub held : IsHeld table machine.run.past
  pub who : lock_holder machine ≡ cpu.number
  pub own : HasOwn (local_of table machine) cpu

-- this CPU holds the lock, and its visit is open
abbrev pub IsOpen : KnownTable → KnownMachine → ℕ → Type 0
IsOpen table machine cpu = visits cpu (local_of table machine).hold ≡ true

-- this CPU holds the lock, and its visit is shut
abbrev pub IsShut : KnownTable → KnownMachine → ℕ → Type 0
IsShut table machine cpu = (local_of table machine).hold ≡ HeldBy cpu

-- The CPU is visited: it holds the lock, its visit is open, and its lists and pins are its own in what it sees.
pub record Visits (table : KnownTable) (machine : KnownMachine) (cpu : KnownCpuLists) : Type 0 where
  pub held : IsHeld table machine.run.past
  pub who : lock_holder machine ≡ cpu.number
  pub is_open : IsOpen table machine cpu.number
  pub own : HasOwn (local_of table machine) cpu

-- each CPU that was visited before is visited after
abbrev pub StaysVisited : KnownTable → KnownMachine → KnownMachine → Type 0
StaysVisited table before after = (cpu : KnownCpuLists) → Visits table before cpu → Visits table after cpu

-- what a visit keeps: the CPU is still visited, and has the same number and the same back frames
pub record KeepsVisit (table : KnownTable) (before : KnownCpuLists) (machine : KnownMachine) (after : KnownCpuLists)
    : Type 0 where
  pub visit : Visits table machine after
  pub number : after.number ≡ before.number
  pub back : after.back ≡ before.back

-- the group of the CPU's fresh frames, which its stock paid for
abbrev pub group_of_fresh : KnownTable → VisitState → ℕ
group_of_fresh table now = unwrap_or (stock_group table now.machine now.cpu.number) 0

-- The phase of a frame with this record, as the CPU sees it, whose fresh frames are of this group. A lent frame is
-- fresh if it is one of the CPU's own fresh frames, else listed. The head of a unit is back if it is one of the CPU's
-- back frames, else live.
abbrev pub phase_of : KnownCpuLists → (group frame : ℕ) → FrameState → Phase
phase_of cpu group frame Free = phase.InZone
phase_of cpu group frame (Lent other) =
    if other == cpu.number && nat_le 1 (times frame cpu.fresh)
    then phase.Head (record { group = group; order = 0 }) (FreshAt other)
    else phase.Lent other OnList
phase_of cpu group frame (Head unit) =
    if nat_le 1 (times frame cpu.back) then phase.Head unit (BackAt cpu.number) else phase.Head unit Live
phase_of cpu group frame (Tail tail_of) = phase.Tail tail_of
