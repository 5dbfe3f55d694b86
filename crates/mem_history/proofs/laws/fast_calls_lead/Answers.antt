use Rattle.mem_history.proofs.Leading.{fast_calls_lead}
use Rattle.mem_history.proofs.laws.fast_calls_lead.Goals as goal

pub returns : goal.returns
returns c = fast_calls_lead
