use Rattle.step_rules.proofs.GroupRuns.{killed_run_is_legal}
use Rattle.step_rules.proofs.examples.a_killed_group_ends.Goals as goal

pub returns : goal.returns
returns c = killed_run_is_legal
