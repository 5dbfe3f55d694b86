-- The condition found is the first of the step's that isn't met.
use Rattle.std.proofs.Common.{◌∙◌, sym}
use Rattle.mem_core.specs.{state_in, conditions_of}
use Rattle.mem_core.proofs.AllMet.{found_unmet, needs_first}
use Rattle.log_check.proofs.finding.unmet.Goals as goal

pub returns : goal.returns
returns c =
    let s = state_in c.args.rows.now in
    let step = c.args.step.now in
    let first = sym c.first_unmet.ensures.first ∙ c.in-Some.is in
    record {
      condition = c.in-Some.condition;
      first = first;
      needed = λ t legal. needs_first s t step.seat step.action c.in-Some.condition first legal;
      shown = c.show.ensures;
    }

pub show-requires-clause-unmet : goal.show-requires-clause-unmet
show-requires-clause-unmet c =
    let step = c.args.step.now in
    found_unmet (state_in c.args.rows.now) (conditions_of step.seat step.action) c.in-Some.condition
    (sym c.first_unmet.ensures.first ∙ c.in-Some.is)
