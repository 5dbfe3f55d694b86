use Rattle.step_rules.proofs.Answering.{only_seats_act}
use Rattle.step_rules.proofs.laws.only_seats_act.Goals as goal

pub returns : goal.returns
returns c = only_seats_act
