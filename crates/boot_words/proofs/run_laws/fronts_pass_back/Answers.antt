use Rattle.boot_words.proofs.Returning.{fronts_pass_back}
use Rattle.boot_words.proofs.run_laws.fronts_pass_back.Goals as goal

pub returns : goal.returns
returns c = fronts_pass_back
