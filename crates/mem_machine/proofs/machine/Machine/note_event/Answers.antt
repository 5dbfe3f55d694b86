use Rattle.std.proofs.Common.{refl, ap, rules, ◌∙◌}
use Rattle.group_tree.specs.declared.event.EventKey.{EventKey}
use Rattle.group_charge.specs.Charges.{Ledger, with_noted}
use Rattle.step_rules.specs.Events.{event_key}
use Rattle.mem_machine.specs.Kept.{machine_of}
use Rattle.mem_machine.proofs.GroupSteps.{grouped, ledger_is, notes_event}
use Rattle.mem_machine.proofs.Made.{held_here}
use Rattle.mem_machine.proofs.Noted.{legal_step}
use Rattle.mem_machine.proofs.machine.Machine.note_event.Goals as goal

pub make_step-requires-clause-held : goal.make_step-requires-clause-held
make_step-requires-clause-held g c =
    held_here g.N.BootName.table (machine_of c.self.inside) _ c.self.view_is c.requires.held

pub make_step-requires-clause-legal : goal.make_step-requires-clause-legal
make_step-requires-clause-legal g c =
    legal_step _ _ _ _ (notes_event g.N.BootName.table (machine_of c.self.inside) _ c.self.view_is c.self.invariant.consistent c.requires.held c.args.group c.requires.there c.args.key _ c.event.ensures _
    c.note.ensures.only.groups c.note.ensures.only.counts c.note.ensures.only.peaks).step tt (search rules)

pub invariant_of-self : goal.invariant_of-self
invariant_of-self g c =
    let all = grouped g.N.BootName.table (machine_of c.self.inside) c.self.invariant.consistent (held_here g.N.BootName.table (machine_of c.self.inside) _ c.self.view_is c.requires.held) _ _ _
    (notes_event g.N.BootName.table (machine_of c.self.inside) _ c.self.view_is c.self.invariant.consistent c.requires.held c.args.group c.requires.there c.args.key _ c.event.ensures _
    c.note.ensures.only.groups c.note.ensures.only.counts c.note.ensures.only.peaks)
    c.note.ensures.only.pages refl _ (c.make_step.ensures.notes _ _ (search rules)) _ refl in
    record { consistent = all.consistent; free = c.self.invariant.free; clean = c.self.invariant.clean; sums = all.sums _ c.self.invariant.sums; owners = all.owners _ c.self.invariant.owners }

pub returns-clause-steps : goal.returns-clause-steps
returns-clause-steps g c =
    (grouped g.N.BootName.table (machine_of c.self.inside) c.self.invariant.consistent (held_here g.N.BootName.table (machine_of c.self.inside) _ c.self.view_is c.requires.held) _ _ _
    (notes_event g.N.BootName.table (machine_of c.self.inside) _ c.self.view_is c.self.invariant.consistent c.requires.held c.args.group c.requires.there c.args.key _ c.event.ensures _
    c.note.ensures.only.groups c.note.ensures.only.counts c.note.ensures.only.peaks)
    c.note.ensures.only.pages refl _ (c.make_step.ensures.notes _ _ (search rules)) _ c.self.view_is).steps

pub returns-clause-visit : goal.returns-clause-visit
returns-clause-visit g c =
    (grouped g.N.BootName.table (machine_of c.self.inside) c.self.invariant.consistent (held_here g.N.BootName.table (machine_of c.self.inside) _ c.self.view_is c.requires.held) _ _ _
    (notes_event g.N.BootName.table (machine_of c.self.inside) _ c.self.view_is c.self.invariant.consistent c.requires.held c.args.group c.requires.there c.args.key _ c.event.ensures _
    c.note.ensures.only.groups c.note.ensures.only.counts c.note.ensures.only.peaks)
    c.note.ensures.only.pages refl _ (c.make_step.ensures.notes _ _ (search rules)) _ c.self.view_is).visit

pub returns-clause-machine : goal.returns-clause-machine
returns-clause-machine g c = ledger_is _ _ c.self.view_is (λ (l : Ledger). with_noted (event_key c.args.key) l c.args.group) _
    (c.note.ensures.noted ∙ ap (λ (k : EventKey). with_noted k c.self.inside.charges c.args.group) c.event.ensures) _
