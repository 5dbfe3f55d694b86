use Rattle.std.proofs.Common.{rules}
use Rattle.cpu_part.proofs.moves.freshen.Goals as goal

pub returns-clause-fresh : goal.returns-clause-fresh
returns-clause-fresh c = search rules

pub returns-clause-front : goal.returns-clause-front
returns-clause-front c = search rules
