use Rattle.line_server.proofs.Histories.{legal_turns_keep_it}
use Rattle.line_server.proofs.laws.legal_turns_keep_it.Goals as goal

pub returns : goal.returns
returns c = legal_turns_keep_it
