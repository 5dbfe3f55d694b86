use Rattle.std.proofs.Common.{rules}
use Rattle.cpu_part.proofs.moves.relist.Goals as goal

pub returns-clause-fresh : goal.returns-clause-fresh
returns-clause-fresh c = search rules

pub returns-clause-list : goal.returns-clause-list
returns-clause-list c = search rules
