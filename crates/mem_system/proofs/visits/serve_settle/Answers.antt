use Rattle.std.proofs.Common.{rules}
use Rattle.mem_system.proofs.visits.serve_settle.Goals as goal

pub returns-clause-served : goal.returns-clause-served
returns-clause-served g c = search rules

pub returns-clause-settled : goal.returns-clause-settled
returns-clause-settled g c = search rules

pub returns-clause-ends : goal.returns-clause-ends
returns-clause-ends g c = search rules
