use Rattle.group_protection.proofs.Effective.{passes_down}
use Rattle.group_protection.proofs.laws.protection_passes_down.Goals as goal

pub returns : goal.returns
returns c = λ key ledger target group facts. passes_down key ledger target facts group
