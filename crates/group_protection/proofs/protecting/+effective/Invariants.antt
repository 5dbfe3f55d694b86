use Rattle.group_tree.specs.Ancestors.{depth_at}
use Rattle.group_protection.proofs.protecting.+effective.Given as goal

abbrev pub decreases-effective : goal.decreases-effective
decreases-effective l = depth_at l.charges.now.groups l.group
