use Rattle.std.proofs.Common.{refl, rules}
use Rattle.group_charge.specs.Charges.{Ledger, with_group_limit}
use Rattle.mem_machine.specs.Kept.{machine_of}
use Rattle.mem_machine.proofs.GroupSteps.{grouped, ledger_is, sets_max}
use Rattle.mem_machine.proofs.Made.{held_here}
use Rattle.mem_machine.proofs.Noted.{legal_step}
use Rattle.mem_machine.proofs.machine.Machine.set_max.Goals as goal

pub make_step-requires-clause-held : goal.make_step-requires-clause-held
make_step-requires-clause-held g c =
    held_here g.N.BootName.table (machine_of c.self.inside) _ c.self.view_is c.requires.held

pub make_step-requires-clause-legal : goal.make_step-requires-clause-legal
make_step-requires-clause-legal g c =
    legal_step _ _ _ _ (sets_max g.N.BootName.table (machine_of c.self.inside) _ c.self.view_is c.self.invariant.consistent c.requires.held c.args.group c.requires.there c.args.limit
    c.requires.below_root _ c.set_max.ensures.limited).step tt (search rules)

pub invariant_of-self : goal.invariant_of-self
invariant_of-self g c =
    let all = grouped g.N.BootName.table (machine_of c.self.inside) c.self.invariant.consistent (held_here g.N.BootName.table (machine_of c.self.inside) _ c.self.view_is c.requires.held) _ _ _
    (sets_max g.N.BootName.table (machine_of c.self.inside) _ c.self.view_is c.self.invariant.consistent c.requires.held c.args.group c.requires.there c.args.limit
    c.requires.below_root _ c.set_max.ensures.limited)
    c.set_max.ensures.pages refl _ (c.make_step.ensures.notes _ _ (search rules)) _ refl in
    record { consistent = all.consistent; free = c.self.invariant.free; clean = c.self.invariant.clean; sums = all.sums _ c.self.invariant.sums; owners = all.owners _ c.self.invariant.owners }

pub returns-clause-steps : goal.returns-clause-steps
returns-clause-steps g c =
    (grouped g.N.BootName.table (machine_of c.self.inside) c.self.invariant.consistent (held_here g.N.BootName.table (machine_of c.self.inside) _ c.self.view_is c.requires.held) _ _ _
    (sets_max g.N.BootName.table (machine_of c.self.inside) _ c.self.view_is c.self.invariant.consistent c.requires.held c.args.group c.requires.there c.args.limit
    c.requires.below_root _ c.set_max.ensures.limited)
    c.set_max.ensures.pages refl _ (c.make_step.ensures.notes _ _ (search rules)) _ c.self.view_is).steps

pub returns-clause-visit : goal.returns-clause-visit
returns-clause-visit g c =
    (grouped g.N.BootName.table (machine_of c.self.inside) c.self.invariant.consistent (held_here g.N.BootName.table (machine_of c.self.inside) _ c.self.view_is c.requires.held) _ _ _
    (sets_max g.N.BootName.table (machine_of c.self.inside) _ c.self.view_is c.self.invariant.consistent c.requires.held c.args.group c.requires.there c.args.limit
    c.requires.below_root _ c.set_max.ensures.limited)
    c.set_max.ensures.pages refl _ (c.make_step.ensures.notes _ _ (search rules)) _ c.self.view_is).visit

pub returns-clause-machine : goal.returns-clause-machine
returns-clause-machine g c = ledger_is _ _ c.self.view_is (λ (l : Ledger). with_group_limit l c.args.group c.args.limit) _ c.set_max.ensures.limited _
