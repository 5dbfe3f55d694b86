use Rattle.std.proofs.Common.{rules}
use Rattle.lru_lists.proofs.lru.Lru.new.Goals as goal

pub returns-clause-linked : goal.returns-clause-linked
returns-clause-linked c = search rules

pub returns-clause-owner : goal.returns-clause-owner
returns-clause-owner c = search rules
