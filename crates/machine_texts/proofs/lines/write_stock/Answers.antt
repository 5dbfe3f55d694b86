use Rattle.std.proofs.Common.{arith}
use Rattle.std.proofs.lemmas.Grind.{common_steps}
use Rattle.machine_texts.proofs.lines.write_stock.Goals as goal

pub returns : goal.returns
returns c = grind (arith, common_steps)
