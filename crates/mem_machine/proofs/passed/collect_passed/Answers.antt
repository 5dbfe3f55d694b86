use Rattle.std.proofs.Common.{ℕ, refl, rules, subst}
use Rattle.step_rules.specs.declared.step.Action.TheVariants.{Collect}
use Rattle.step_watch.specs.Watched.{Watches}
use Rattle.step_watch.proofs.Watching.{watches_both}
use Rattle.mem_machine.specs.Steps.{unlist_steps}
use Rattle.mem_machine.proofs.AtTable.{held_at, made_at, may_at}
use Rattle.mem_machine.proofs.passed.collect_passed.Goals as goal

pub collect-requires : goal.collect-requires
collect-requires g c = record {
  held = held_at _ _ c.args.tables.now.words_are _ c.requires.held;
  holder = c.requires.holder;
  legal = may_at _ _ c.args.tables.now.words_are 0 refl c.args.past.now (Collect c.args.frame c.args.cpu) c.requires.legal;
}

pub returns : goal.returns
returns g c = record {
  collected = made_at _ _ c.args.tables.now.words_are 0 refl _ _ _ _ c.collect.ensures;
  watched = subst (λ (i : ℕ). Watches c.args.watch.now (unlist_steps c.args.cpu i) c.take-2.new.self) c.number-at.ensures
      (watches_both _ _ _ _ _ (c.take.ensures _ _ (search rules)) (c.take-2.ensures _ _ (search rules)));
}
