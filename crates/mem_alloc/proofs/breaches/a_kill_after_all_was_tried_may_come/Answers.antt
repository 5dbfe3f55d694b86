use Rattle.std.proofs.Common.{◌≡◌, ℕ, zero, suc, ◌<◌, ◌≤◌, true, false, Some, refl, ap, subst, inl, inr, arith}
use Rattle.std.proofs.lemmas.Bool.Decides.{nat_tests}
use Rattle.group_tree.specs.Path.{names_of}
use Rattle.group_tree.specs.Groups.{group_at, in_subtree, is_oom_group, limit_of, path_of}
use Rattle.group_charge.specs.Charges.{usage_charged}
use Rattle.lru_lists.specs.declared.record.Home.{Home}
use Rattle.lru_lists.specs.Queue.{link_at}
use Rattle.step_rules.specs.State.{PartStock, sum_to}
use Rattle.mem_machine.specs.{frames_charged, home_of, part_at}
use Rattle.mem_reclaim.specs.Sets.{HasNoFlagged}
use Rattle.mem_reclaim.specs.{misses_of}
use Rattle.mem_alloc.specs.KillBreaches.{charged_to, first_of, tree}
use Rattle.mem_alloc.proofs.breaches.a_kill_after_all_was_tried_may_come.Goals as goal

-- the frames of another group are no more
fewer : (other : ℕ) → frames_charged (charged_to 2) other ≤ 2
unfolding sum_to
fewer other = grind (arith, nat_tests)

-- no lesser one has as many
least : (other : ℕ) → frames_charged (charged_to 2) other ≡ 2 → 2 ≤ other
unfolding sum_to
least other same = grind (arith, nat_tests)

-- only frame 0 is kept and clean
clean_unit : (frame : ℕ) (home : Home) → home_of (first_of 2 false) frame ≡ Some home → (link_at (first_of 2 false) frame).is_dirty ≡ false
    → 0 ≡ frame
clean_unit zero home kept clean = refl
clean_unit (suc zero) home kept clean = cc
clean_unit (suc (suc zero)) home kept clean = cc
clean_unit (suc (suc (suc zero))) home kept clean = cc
clean_unit (suc (suc (suc (suc frame)))) home kept clean = cc

no_flag : HasNoFlagged (tree 2 false false) 1 2
unfolding is_oom_group group_at
no_flag other = grind (arith, nat_tests)

pub returns : goal.returns
unfolding limit_of usage_charged in_subtree path_of group_at names_of sum_to
returns c = λ table before after runs counts consistent charges. record {
  limited = 1;
  need = 1;
  allowed = refl;
  asked = (refl, refl);
  over = refl;
  noted = refl;
  drained = λ cpu from to chosen.
      let only : 1 ≡ cpu = let one = runs.cpus in omega (arith, from, to, one) in
      inr (subst (λ (k : ℕ). (part_at table after k).stock.is_drained ≡ true) only (ap (λ (stock : PartStock). stock.is_drained) runs.stock));
  missed = λ other below. inl (λ frame list kept clean.
      let a = runs.misses_before in
      let b = runs.misses in
      subst (λ (f : ℕ). misses_of before f < misses_of after f) (clean_unit frame _ kept clean) (omega (arith, a, b)));
  chosen = record { chosen = refl; some = omega arith; most = λ other may. fewer other; least = λ other may same. least other same };
  killed_root_is = inr (no_flag, refl);
  consistent = consistent;
  charges = charges;
  tied = record { misses = counts; owners = λ frame kept. refl; dirt = λ frame kept. refl; settings = refl };
}
