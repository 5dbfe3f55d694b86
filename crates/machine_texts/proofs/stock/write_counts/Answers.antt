use Rattle.std.proofs.Common.{arith}
use Rattle.std.proofs.lemmas.Grind.{common_steps}
use Rattle.machine_texts.proofs.stock.write_counts.Goals as goal

pub returns : goal.returns
returns g c = grind (arith, common_steps)
