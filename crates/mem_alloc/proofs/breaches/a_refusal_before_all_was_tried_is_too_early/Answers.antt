use Rattle.std.proofs.Common.{inl, inr, refl, sym, subst, arith}
use Rattle.group_tree.specs.Path.{names_of}
use Rattle.group_tree.specs.Groups.{group_at, in_subtree, path_of}
use Rattle.group_charge.specs.Charges.{usage_charged}
use Rattle.lru_lists.specs.declared.record.LruList.TheVariants.{Inactive}
use Rattle.mem_reclaim.specs.{MissedAll}
use Rattle.mem_alloc.specs.KillBreaches.{call_in, untried}
use Rattle.mem_alloc.proofs.KillBreaking.{not_missed, unset, unset_below_root}
use Rattle.mem_alloc.proofs.breaches.a_refusal_before_all_was_tried_is_too_early.Goals as goal

pub returns-clause-untried : goal.returns-clause-untried
unfolding in_subtree path_of group_at names_of
returns-clause-untried c = λ table before after runs all. not_missed untried refl refl refl (omega arith) unset table before after runs all.missed

pub returns-clause-high : goal.returns-clause-high
unfolding in_subtree path_of group_at names_of usage_charged
returns-clause-high c = λ table before after runs reclaims. elim (reclaims.missed (omega arith) 2 refl) [
  | inl missed ↦ let rose = missed 0 Inactive refl refl in let none = runs.misses in omega (arith, rose, none)
  | inr kept ↦ unset (record {
    turn = kept.turn;
    groups = kept.groups;
    settings = kept.settings;
    since = kept.since;
    until = kept.until;
    some = kept.some;
    few = kept.few;
  })
]

pub returns-clause-round : goal.returns-clause-round
unfolding in_subtree path_of group_at names_of
returns-clause-round c = λ table before after runs idle.
    let all = subst (MissedAll 0 (call_in untried table before after).before) (sym idle.1.tries.machine) (idle.1.missed (omega arith)) in
    elim (all 2 refl) [
      | inl missed ↦ let rose = missed 0 Inactive refl refl in let none = runs.misses in omega (arith, rose, none)
      | inr kept ↦ unset_below_root kept
    ]
