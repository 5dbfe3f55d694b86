use Rattle.mem_machine.proofs.Tells.{ledgers_agree}
use Rattle.mem_machine.proofs.laws.ledgers_agree.Goals as goal

pub returns : goal.returns
returns c = ledgers_agree
