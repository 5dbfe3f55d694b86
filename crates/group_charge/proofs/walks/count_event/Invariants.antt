use Rattle.std.proofs.Common.{true}
use Rattle.group_charge.specs.Charges.{Account, empty_account}
use Rattle.group_charge.specs.Kept.{with_event}
use Rattle.group_charge.proofs.WalkLemmas.{Walking}
use Rattle.group_charge.proofs.walks.count_event.Given as goal

abbrev pub invariant-loop-ancestor : goal.invariant-loop-ancestor
invariant-loop-ancestor l = Walking Account (empty_account 0) l.tree (λ _. true) l.fn.group (with_event l.fn.key) l.initial.accounts.items l.ancestor-iterator l.accounts.items
