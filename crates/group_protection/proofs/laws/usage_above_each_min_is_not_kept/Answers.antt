use Rattle.group_protection.proofs.Topping.{usage_above_each_min}
use Rattle.group_protection.proofs.laws.usage_above_each_min_is_not_kept.Goals as goal

pub returns : goal.returns
returns c = usage_above_each_min
