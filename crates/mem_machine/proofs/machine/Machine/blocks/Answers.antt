use Rattle.std.proofs.Common.{rules}
use Rattle.mem_machine.proofs.machine.Machine.blocks.Goals as goal

pub returns-clause-blocks : goal.returns-clause-blocks
returns-clause-blocks g c = search rules

pub returns-clause-areas : goal.returns-clause-areas
returns-clause-areas g c = search rules
