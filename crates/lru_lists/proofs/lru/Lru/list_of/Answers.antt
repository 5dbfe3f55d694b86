use Rattle.std.proofs.Common.{rules}
use Rattle.lru_lists.proofs.lru.Lru.list_of.Goals as goal

pub returns-in-Some : goal.returns-in-Some
returns-in-Some c = search rules
