use Rattle.std.proofs.Common.{rules}
use Rattle.mem_system.proofs.texts.blocks_text.Goals as goal

pub returns-clause-text : goal.returns-clause-text
returns-clause-text g c = search rules
