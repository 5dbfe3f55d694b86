use Rattle.std.proofs.Common.{arith}
use Rattle.std.proofs.lemmas.Grind.{common_steps}
use Rattle.machine_texts.proofs.units.write_rest.Goals as goal

pub returns : goal.returns
returns c = grind (arith, common_steps)
