use Rattle.std.proofs.Common.{[], sym, refl, subst}
use Rattle.mem_machine.specs.{Makes, make_steps}
use Rattle.mem_machine.proofs.Followed.{makes_none}
use Rattle.mem_system.proofs.groups.make_group.Goals as goal

pub returns-in-Ok-clause-made : goal.returns-in-Ok-clause-made
returns-in-Ok-clause-made g c = record {
  steps = make_steps c.args.path.now c.in-Ok.group;
  does = record { no_fault = sym c.in-Ok.ensures.refused; adds = c.in-Ok.ensures.made; steps_are = refl };
  makes = c.in-Ok.ensures.steps;
}

pub returns-in-Err-clause-made : goal.returns-in-Err-clause-made
returns-in-Err-clause-made g c =
    let t = g.N.BootName.table in
    let m = c.args.machine.now in record {
      steps = [];
      does = (sym c.in-Err.ensures.refused, record { machine = c.in-Err.ensures.unchanged; steps_are = refl });
      makes = subst (Makes t m []) (sym c.in-Err.ensures.unchanged) (makes_none t m);
    }
