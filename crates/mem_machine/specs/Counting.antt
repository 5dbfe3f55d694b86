-- How a list of steps changes the machine's counts of units that ended, were freed or were missed.
use Rattle.std.specs.Prelude.{ℕ, ◌==◌, Bool, true, false, [], ◌∷◌, if◌then◌else◌}
use Rattle.group_tree.specs.Room.{one_more}
use Rattle.step_rules.specs.declared.phase.Stage.{Stage}
use Rattle.step_rules.specs.declared.phase.Stage.TheVariants.{BackPassing}
use Rattle.step_rules.specs.declared.phase.Phase.{Phase}
use Rattle.step_rules.specs.declared.phase.Phase.TheVariants.{Head}
use Rattle.step_rules.specs.declared.step.Action.{Action}
use Rattle.step_rules.specs.declared.step.Action.TheVariants.{Put, Freeze, Collect, Return}
use Rattle.step_rules.specs.declared.step.Answer.{Answer}
use Rattle.step_rules.specs.declared.step.Answer.TheVariants.{Done, Last, Missed}
use Rattle.step_rules.specs.State.{State}
use Rattle.step_rules.specs.{is_killed_return_phase, Run, after}
use Rattle.mem_machine.specs.declared.counts.Counts.{Counts}
use Rattle.mem_machine.specs.Counts.{with_killed_fresh, with_miss}

-- the unit's head is being passed back as a back frame
abbrev pub is_stage_back_passing : Stage → Bool
is_stage_back_passing (BackPassing cpu) = true
is_stage_back_passing stage = false

-- the frame is being passed back as a back frame
abbrev pub is_back_passing : Phase → Bool
is_back_passing (Head unit stage) = is_stage_back_passing stage
is_back_passing phase = false

-- one more last put
abbrev pub one_more_last_put : Counts → Counts
one_more_last_put counts = record counts { last_puts = one_more counts.last_puts }

-- one more freeze
abbrev pub one_more_freeze : Counts → Counts
one_more_freeze counts = record counts { freezes = one_more counts.freezes }

-- one more unit freed
abbrev pub one_more_return : Counts → Counts
one_more_return counts = record counts { returns = one_more counts.returns }

-- The counts after a step with its answer, by the state before it; a count stays at its greatest value. A last put
-- counts if the zone made it, or when the zone collects the back frame. A freeze counts as done or as missed, by its
-- answer. A freed unit counts, and also as a drop if it was a fresh frame of a killed group.
abbrev pub counts_after : State → (seat : ℕ) → Action → Answer → Counts → Counts
counts_after state seat (Put frame) Last counts = if seat == 0 then one_more_last_put counts else counts
counts_after state seat (Collect frame cpu) Done counts =
    if is_back_passing (state.phases frame) then one_more_last_put counts else counts
counts_after state seat (Freeze frame references) Done counts = one_more_freeze counts
counts_after state seat (Freeze frame references) Missed counts = with_miss counts
counts_after state seat (Return frame) Done counts =
    if is_killed_return_phase state.killed (state.phases frame) then with_killed_fresh counts
    else one_more_return counts
counts_after state seat action answer counts = counts

-- the counts after all steps of a list, the first of which is made in this state
abbrev pub counts_along : State → Run → Counts → Counts
counts_along state [] counts = counts
counts_along state (made ∷ rest) counts =
    counts_along (after state made.0.seat made.0.action made.1) rest
    (counts_after state made.0.seat made.0.action made.1 counts)
