use Rattle.std.proofs.Common.{[], sym, ap, ◌∙◌, subst}
use Rattle.group_charge.specs.Charges.{with_settings}
use Rattle.mem_machine.specs.{machine_of, Makes, KnownMachine}
use Rattle.mem_machine.proofs.GroupSteps.{settings_consistent, settings_make}
use Rattle.mem_machine.proofs.Made.{visit_same}
use Rattle.mem_machine.proofs.machine.Machine.set_settings.Goals as goal

pub invariant_of-self : goal.invariant_of-self
invariant_of-self g c = record {
  consistent = settings_consistent g.N.BootName.table (machine_of c.self.inside) _ c.args.group c.args.settings c.set_settings.ensures c.self.invariant.consistent;
  free = c.self.invariant.free;
  clean = c.self.invariant.clean;
  sums = c.self.invariant.sums;
  owners = c.self.invariant.owners;
}

pub returns-clause-machine : goal.returns-clause-machine
returns-clause-machine g c = λ i. record (c.self.view_is i) {
  ledger = (c.set_settings.ensures ∙ ap (λ (m : KnownMachine). with_settings m.ledger c.args.group c.args.settings) c.self.view_is) i;
}

pub returns-clause-visit : goal.returns-clause-visit
returns-clause-visit g c = λ cpu visit. visit_same g.N.BootName.table c.args.self.now _ cpu (ap (λ (m : KnownMachine). m.run) (returns-clause-machine g c)) visit

pub returns-clause-steps : goal.returns-clause-steps
returns-clause-steps g c = subst (Makes g.N.BootName.table c.args.self.now []) (sym (returns-clause-machine g c))
    (settings_make g.N.BootName.table c.args.self.now c.args.group c.args.settings)
