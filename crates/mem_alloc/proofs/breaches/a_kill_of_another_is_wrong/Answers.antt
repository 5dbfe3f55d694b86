use Rattle.std.proofs.Common.{◌≡◌, ℕ, ◌&&◌, true, false, inl, inr, refl, sym, subst, arith}
use Rattle.std.proofs.lemmas.Bool.{false≢true, true≢false}
use Rattle.group_tree.specs.Path.{names_of}
use Rattle.group_tree.specs.Groups.{group_at, in_subtree, is_oom_group, path_of}
use Rattle.step_rules.specs.State.{sum_to}
use Rattle.mem_reclaim.specs.Sets.{IsKilledRoot}
use Rattle.mem_alloc.specs.KillBreaches.{full, of_b, tree}
use Rattle.mem_alloc.proofs.breaches.a_kill_of_another_is_wrong.Goals as goal

pub returns-clause-of_a_smaller : goal.returns-clause-of_a_smaller
unfolding in_subtree path_of group_at names_of sum_to
returns-clause-of_a_smaller c = λ table before after runs may.
    let below = subst (λ (g : ℕ). in_subtree full.groups g 2 && true ≡ true) (sym may.asked.0) refl in
    let more = may.chosen.most 2 below in
    omega (arith, more)

pub returns-clause-of_a_stranger : goal.returns-clause-of_a_stranger
unfolding in_subtree path_of group_at names_of
returns-clause-of_a_stranger c = λ table before after runs may.
    false≢true (subst (λ (g : ℕ). in_subtree full.groups g 4 && true ≡ true) may.asked.0 may.chosen.chosen)

pub returns-clause-alone : goal.returns-clause-alone
unfolding in_subtree path_of group_at names_of is_oom_group
returns-clause-alone c = λ table before after runs may.
    elim (subst (λ (g : ℕ). IsKilledRoot (tree 2 true false) g of_b) may.asked.0 may.killed_root_is) [
      | inl highest ↦ false≢true highest.between
      | inr alone ↦ true≢false (alone.0 1)
    ]
