use Rattle.std.proofs.Common.{rules}
use Rattle.machine_texts.proofs.show.bytes_used.Goals as goal

pub returns : goal.returns
returns c = search rules
