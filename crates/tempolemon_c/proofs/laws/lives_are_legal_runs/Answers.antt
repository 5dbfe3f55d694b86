use Rattle.tempolemon_c.proofs.Lives.{lives_are_legal_runs}
use Rattle.tempolemon_c.proofs.laws.lives_are_legal_runs.Goals as goal

pub returns : goal.returns
returns c = lives_are_legal_runs
