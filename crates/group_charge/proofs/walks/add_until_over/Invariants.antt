use Rattle.std.proofs.Common.{ℕ, ◌+◌}
use Rattle.group_tree.specs.Room.{has_room}
use Rattle.group_charge.specs.Kept.{usage_by}
use Rattle.group_charge.proofs.WalkLemmas.{Walking}
use Rattle.group_charge.proofs.walks.add_until_over.Given as goal

abbrev pub invariant-loop-ancestor : goal.invariant-loop-ancestor
invariant-loop-ancestor l =
    Walking ℕ 0 l.tree (λ m. has_room l.tree (usage_by l.initial.usages.items) m l.fn.pages) l.fn.group (λ _ usage. usage + l.fn.pages) l.initial.usages.items l.ancestor-iterator l.usages.items
