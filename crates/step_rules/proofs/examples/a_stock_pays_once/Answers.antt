use Rattle.step_rules.proofs.GroupRuns.{stock_run_is_legal}
use Rattle.step_rules.proofs.examples.a_stock_pays_once.Goals as goal

pub returns : goal.returns
returns c = stock_run_is_legal
