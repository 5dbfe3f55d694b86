use Rattle.std.proofs.Common.{arith}
use Rattle.std.proofs.lemmas.Grind.{common_steps}
use Rattle.machine_texts.proofs.stock.write_stock_state.Goals as goal

pub returns-in_ok-push_str-in-DrainedOf : goal.returns-in_ok-push_str-in-DrainedOf
returns-in_ok-push_str-in-DrainedOf c = grind (arith, common_steps)
