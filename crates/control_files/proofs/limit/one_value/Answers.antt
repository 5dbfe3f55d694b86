use Rattle.control_files.proofs.GrammarLemmas.{same_value}
use Rattle.control_files.proofs.limit.one_value.Goals as goal

pub returns : goal.returns
returns c = same_value
