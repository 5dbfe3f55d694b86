-- What a Release does, and which frames of a freed unit go to the CPU's list.
use Rattle.std.specs.Prelude.{◌≡◌, ◌≢◌, ℕ, ◌<◌, ◌≤◌, List, [], ◌++◌, length, take}
use Rattle.group_tree.specs.declared.fault.Fault.TheVariants.{NotKept}
use Rattle.zone_blocks.specs.declared.config.Config.{Config}
use Rattle.step_rules.specs.After.{Run}
use Rattle.mem_machine.specs.declared.releasing.Released.TheVariants as released
use Rattle.mem_machine.specs.{KnownMachine, VisitState, visit_state, LeavesReferences, ReturnsUnit, release_steps, LendsFrame, UnlistsMany}
use Rattle.mem_machine.specs.{lend_steps, drain_list_steps, Transition, OfMachineAlone, Stays, transition}
use Rattle.mem_system.specs.declared.outcome.Outcome.{Outcome}
use Rattle.mem_system.specs.declared.outcome.Outcome.TheVariants.{Left, Returned, Refused}
use Rattle.mem_system.specs.Units.{HeadsNoUnit}

-- if the CPU's list has at least `high` frames, `batch` frames from its front are freed; else nothing changes
pub record CutsList (sizes : Config) (call : Transition VisitState) : Type 0 where
  pub cut : List ℕ
  pub at_high : sizes.high ≤ length call.before.cpu.list → cut ≡ take sizes.batch call.before.cpu.list
  pub below_high : length call.before.cpu.list < sizes.high → cut ≡ []
  pub takes : UnlistsMany cut call.before call.after
  pub steps_are : call.steps ≡ drain_list_steps call.before.cpu.number cut

-- the CPU's list is cut if it has at least `high` frames; then the free frame is added to its end
pub record ListsFrame (sizes : Config) (frame : ℕ) (call : Transition VisitState) : Type 0 where
  pub mid : VisitState
  pub cutting : Run
  pub cuts : CutsList sizes (transition call.table call.before cutting mid)
  pub lends : LendsFrame frame mid call.after
  pub steps_are : call.steps ≡ cutting ++ lend_steps call.before.cpu.number frame

-- The unit leaves its list, and is freed and uncharged. A single frame is then added to the CPU's list; a block stays
-- in the zone.
pub record ReturnsFrames (sizes : Config) (frame : ℕ) (call : Transition VisitState) : Type 0 where
  pub freed : KnownMachine
  pub returns : ReturnsUnit frame call.before.machine freed
  pub listing : Run
  pub single : returns.unit.order ≡ 0
      → ListsFrame sizes frame (transition call.table (visit_state freed call.before.cpu) listing call.after)
  pub block : returns.unit.order ≢ 0
      → Stays (transition call.table (visit_state freed call.before.cpu) listing call.after)
  pub steps_are : call.steps ≡ release_steps frame released.Returned ++ listing

-- the unit leaves its list and stays charged, with this many references of CPUs left
pub record LeavesUnit (frame left : ℕ) (call : Transition VisitState) : Type 0 where
  pub leaves : LeavesReferences frame left call.before.machine call.after.machine
  pub cpu : call.after.cpu ≡ call.before.cpu
  pub steps_are : call.steps ≡ release_steps frame (released.Left left)

-- Release: references of CPUs are left, the unit is freed, or the frame heads no kept unit
abbrev pub ReleasesFrame : Config → (frame : ℕ) → Outcome → Transition VisitState → Type 0
ReleasesFrame sizes frame (Left left) call = LeavesUnit frame left call
ReleasesFrame sizes frame Returned call = ReturnsFrames sizes frame call
ReleasesFrame sizes frame (Refused NotKept) call = OfMachineAlone (HeadsNoUnit frame) call
ReleasesFrame sizes frame other call = ⊥
