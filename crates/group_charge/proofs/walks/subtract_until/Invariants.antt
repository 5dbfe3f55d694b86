use Rattle.std.proofs.Common.{ℕ, ◌-◌}
use Rattle.group_charge.proofs.WalkLemmas.{Walking, goes_on}
use Rattle.group_charge.proofs.walks.subtract_until.Given as goal

abbrev pub invariant-loop-ancestor : goal.invariant-loop-ancestor
invariant-loop-ancestor l = Walking ℕ 0 l.tree (goes_on l.fn.end) l.fn.group (λ _ usage. usage - l.fn.pages) l.initial.usages.items l.ancestor-iterator l.usages.items
