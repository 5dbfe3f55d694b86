-- A get that changes nothing is a step of the run. Serves the law `quiet_gets_are_steps`.
use Rattle.std.proofs.Common.{◌≡◌, ℕ, Some, List, [], ◌-◌, subst, sym}
use Rattle.std.specs.Prelude.{slice_set}
use Rattle.std.specs.List.{slice_get}
use Rattle.std.proofs.lemmas.Bool.{true≢false}
use Rattle.frame_word.specs.declared.answers.Get.TheVariants.{Full, Held, Raced, Zero}
use Rattle.step_rules.specs.After.{Run}
use Rattle.mem_system.specs.{CpuInRun, locked_state}
use Rattle.mem_system.specs.Visits.{Transition, transition}
use Rattle.script_replay.specs.{OnlySaw, SystemState, TakesNoLock, system_state}
use Rattle.script_replay.specs.Answers.{CpuStays}
use Rattle.script_replay.specs.Lines.{OnlyGoesOn, QuietGetsAreSteps, RunGoesOn}
use Rattle.script_replay.proofs.Gaining.{part_goes_on}

-- the run so far goes on by what a CPU made without the lock, logged or not
only_goes_on : (call : Transition SystemState) (index : ℕ) (part left : CpuInRun) (steps : Run) → slice_get call.before.cpus index ≡ Some part
    → call.after.cpus ≡ slice_set call.before.cpus index left
    → TakesNoLock steps (transition call.table (locked_state call.before.locked part) call.steps (locked_state call.after.locked left))
    → OnlySaw call.table [] call.before.locked call.after.locked → CpuStays part left → OnlyGoesOn steps call part left
only_goes_on call index part left steps is_part cpus takes locked stays = record {
  goes_on = subst (λ (all : List CpuInRun). RunGoesOn steps call.before (system_state call.after.locked all)) (sym cpus)
      (part_goes_on call.before.locked call.after.locked call.before.cpus index part left steps is_part takes.gains);
  locked = locked;
  stays = stays;
}

pub quiet_gets_are_steps : QuietGetsAreSteps
quiet_gets_are_steps is_explained cpu frame Zero call quiet at =
    only_goes_on call (cpu - 1) at.part at.left _ at.is_part at.cpus at.done.1 at.done.1.locked (at.done.0.2, at.done.0.1)
quiet_gets_are_steps is_explained cpu frame Full call quiet at =
    only_goes_on call (cpu - 1) at.part at.left _ at.is_part at.cpus at.done.1 at.done.1.locked (at.done.0.2, at.done.0.1)
quiet_gets_are_steps is_explained cpu frame Held call quiet at = absurd (true≢false (sym quiet))
quiet_gets_are_steps is_explained cpu frame (Raced found) call quiet at = absurd (true≢false (sym quiet))
