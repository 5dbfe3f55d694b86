use Rattle.load_run.proofs.Visited.{pasts_begin}
use Rattle.load_run.proofs.laws.pasts_begin.Goals as goal

pub returns : goal.returns
returns c = pasts_begin
