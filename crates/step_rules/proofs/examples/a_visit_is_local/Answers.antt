use Rattle.step_rules.proofs.LocalRuns.{taken_is_shown, visit_is_local, visit_is_interleaved, visit_is_shown}
use Rattle.step_rules.proofs.examples.a_visit_is_local.Goals as goal

pub returns : goal.returns
returns c = record { before = taken_is_shown; local = visit_is_local; between = visit_is_interleaved; after = visit_is_shown }
