use Rattle.group_protection.proofs.Effective.{effective-bounded}
use Rattle.group_protection.proofs.laws.protection_is_bounded.Goals as goal

pub returns : goal.returns
returns c = λ key ledger target top group facts child above. effective-bounded key ledger target facts top child group above
