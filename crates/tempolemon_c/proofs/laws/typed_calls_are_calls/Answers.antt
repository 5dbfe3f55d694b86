use Rattle.tempolemon_c.proofs.Lives.{typed_calls_are_calls}
use Rattle.tempolemon_c.proofs.laws.typed_calls_are_calls.Goals as goal

pub returns : goal.returns
returns c = typed_calls_are_calls
