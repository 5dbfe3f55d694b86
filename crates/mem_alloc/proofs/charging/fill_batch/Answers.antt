use Rattle.std.proofs.Common.{[], inl, inr, refl, sym, ◌∙◌, subst}
use Rattle.std.proofs.lemmas.Bool.{true≢false}
use Rattle.group_charge.specs.Charges.{Ledger}
use Rattle.step_rules.specs.State.{State}
use Rattle.mem_machine.specs.{HasDrained, fill_steps, over_steps}
use Rattle.mem_machine.proofs.Followed.{makes_none}
use Rattle.mem_alloc.specs.High.{PathHasHighRoom}
use Rattle.mem_alloc.proofs.charging.fill_batch.Goals as goal

pub returns-then-not-path_has_high_room-clause-lacks : goal.returns-then-not-path_has_high_room-clause-lacks
returns-then-not-path_has_high_room-clause-lacks g c _ = record {
  steps = [];
  does = inl (
    λ high. true≢false (sym (c.path_has_high_room.ensures.1 (subst (λ (l : Ledger). PathHasHighRoom l c.args.group c.args.pages) (sym c.charges.ensures) high))
        ∙ c.if-not-path_has_high_room.true),
    record { machine = refl; steps_are = refl },
  );
  makes = makes_none g.N.BootName.table c.args.machine.now;
}

pub returns-in_default-clause-fills : goal.returns-in_default-clause-fills
returns-in_default-clause-fills g c _ = record {
  steps = fill_steps c.args.cpu.now.number c.args.group c.args.pages;
  does = record {
    high = subst (λ (l : Ledger). PathHasHighRoom l c.args.group c.args.pages) c.charges.ensures (c.path_has_high_room.ensures.0 c.if-not-path_has_high_room.false);
    fills = record { fills = c.in_default.ensures.fills; cpu = refl; steps_are = refl };
  };
  makes = c.in_default.ensures.steps;
}

pub returns-clause-lacks : goal.returns-clause-lacks
returns-clause-lacks g c _ = record {
  steps = over_steps c.args.group c.args.pages c.in-Err._over.group;
  does = inr (record {
    high = subst (λ (l : Ledger). PathHasHighRoom l c.args.group c.args.pages) c.charges.ensures (c.path_has_high_room.ensures.0 c.if-not-path_has_high_room.false);
    over = c.in-Err._over.group;
    batch = c.in-Err.ensures.over;
    machine = c.in-Err.ensures.refused.machine;
    refuses = c.in-Err.ensures.refused.steps;
    steps_are = refl;
  });
  makes = c.in-Err.ensures.refused.steps;
}

pub returns-clause-drained : goal.returns-clause-drained
returns-clause-drained g c _ = subst (λ (s : State). HasDrained (s.parts c.args.cpu.now.number)) (sym c.in-Err.ensures.refused.left) c.requires.may_fill.drained
