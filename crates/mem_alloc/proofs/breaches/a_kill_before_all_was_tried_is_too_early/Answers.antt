use Rattle.std.proofs.Common.{◌≡◌, ℕ, Some, refl, arith}
use Rattle.std.proofs.lemmas.Bool.{true≢false}
use Rattle.group_tree.specs.Path.{names_of}
use Rattle.group_tree.specs.Groups.{group_at, in_subtree, path_of}
use Rattle.mem_alloc.specs.KillBreaches.{min_of_a_stranger, of_b, tried_before, untried}
use Rattle.mem_alloc.proofs.KillBreaking.{stranger, too_early, unset}
use Rattle.mem_alloc.proofs.breaches.a_kill_before_all_was_tried_is_too_early.Goals as goal

pub returns-clause-untried : goal.returns-clause-untried
unfolding in_subtree path_of group_at names_of
returns-clause-untried c = too_early untried refl refl refl (omega arith) unset of_b

pub returns-clause-tried_before : goal.returns-clause-tried_before
unfolding in_subtree path_of group_at names_of
returns-clause-tried_before c = too_early tried_before refl refl refl (omega arith) unset of_b

pub returns-clause-made_dirty : goal.returns-clause-made_dirty
returns-clause-made_dirty c = λ table before after runs may. true≢false (may.tied.dirt 0 (λ none. cc))

same_owner : (a b : ℕ) → Some a ≡ Some b → a ≡ b
same_owner a b same = cc

pub returns-clause-given_away : goal.returns-clause-given_away
returns-clause-given_away c = λ table before after runs may.
    let same = same_owner 4 2 (may.tied.owners 0 (λ none. cc)) in
    omega (arith, same)

pub returns-clause-min_of_a_stranger : goal.returns-clause-min_of_a_stranger
unfolding in_subtree path_of group_at names_of
returns-clause-min_of_a_stranger c = too_early min_of_a_stranger refl refl refl (omega arith) stranger of_b
