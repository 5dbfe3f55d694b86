use Rattle.group_tree.specs.declared.group.Group.{Group}
use Rattle.group_protection.specs.Protections.{claim_on}
use Rattle.group_protection.proofs.Claiming.{ClaimedTo}
use Rattle.group_protection.proofs.shares.claimed.Given as goal

abbrev pub invariant-loop-row : goal.invariant-loop-row
invariant-loop-row l = ClaimedTo (λ (g : Group). claim_on l.key l.charges l.parent g.number) l.row-items l.row-index l.sum
