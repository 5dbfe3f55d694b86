use Rattle.std.proofs.Common.{ℕ, ◌∙◌, IsTrue, true, arith, ap, refl, sym, subst, rules}
use Rattle.std.specs.Prelude.{slice_set}
use Rattle.std.proofs.lemmas.List.{length-set}
use Rattle.group_tree.specs.Groups.{has_group}
use Rattle.group_charge.specs.Charges.{with_kill_noted}
use Rattle.mem_machine.specs.{AreCleanCounts, machine_of, KnownMachine}
use Rattle.mem_machine.proofs.GroupSteps.{grouped, kills, there_inside}
use Rattle.mem_machine.proofs.Made.{held_here}
use Rattle.mem_machine.proofs.Noted.{legal_step}
use Rattle.mem_machine.proofs.machine.Machine.mark_killed.Goals as goal

pub make_step-requires-clause-held : goal.make_step-requires-clause-held
make_step-requires-clause-held g c = held_here g.N.BootName.table (machine_of c.self.inside) _ c.self.view_is c.requires.held

pub make_step-requires-clause-legal : goal.make_step-requires-clause-legal
make_step-requires-clause-legal g c =
    let value = c.number.ensures.value in
    let inside = there_inside g.N.BootName.table (machine_of c.self.inside) _ c.self.view_is c.self.invariant.consistent c.prove_charges.ensures.legal c.args.group c.requires.there in
    legal_step _ _ _ _ (kills g.N.BootName.table (machine_of c.self.inside) _ c.self.view_is c.self.invariant.consistent c.requires.held c.args.group c.requires.there inside c.requires.alive _
    c.note.ensures.only.groups c.note.ensures.only.counts c.note.ensures.only.peaks _ (ap (λ (n : ℕ). slice_set c.self.inside.killed.items n true) value)).step tt (search rules)

pub invariant_of-self : goal.invariant_of-self
invariant_of-self g c =
    let value = c.number.ensures.value in
    let inside = there_inside g.N.BootName.table (machine_of c.self.inside) _ c.self.view_is c.self.invariant.consistent c.prove_charges.ensures.legal c.args.group c.requires.there in
    let all = grouped g.N.BootName.table (machine_of c.self.inside) c.self.invariant.consistent (held_here g.N.BootName.table (machine_of c.self.inside) _ c.self.view_is c.requires.held) _ _ _
    (kills g.N.BootName.table (machine_of c.self.inside) _ c.self.view_is c.self.invariant.consistent c.requires.held c.args.group c.requires.there inside c.requires.alive _
    c.note.ensures.only.groups c.note.ensures.only.counts c.note.ensures.only.peaks _ (ap (λ (n : ℕ). slice_set c.self.inside.killed.items n true) value))
    c.note.ensures.only.pages (length-set c.self.inside.killed.items c.number.result true) _ (c.make_step.ensures.notes _ _ (search rules)) _ refl in
    record { consistent = all.consistent; free = c.self.invariant.free; clean = subst (λ (room : ℕ). AreCleanCounts room c.self.inside.frame_states.items c.self.inside.links c.self.inside.clean.items) (sym (length-set c.self.inside.killed.items c.number.result true)) c.self.invariant.clean; sums = all.sums _ c.self.invariant.sums; owners = all.owners _ c.self.invariant.owners }

pub returns-clause-steps : goal.returns-clause-steps
returns-clause-steps g c =
    let value = c.number.ensures.value in
    let inside = there_inside g.N.BootName.table (machine_of c.self.inside) _ c.self.view_is c.self.invariant.consistent c.prove_charges.ensures.legal c.args.group c.requires.there in
    (grouped g.N.BootName.table (machine_of c.self.inside) c.self.invariant.consistent (held_here g.N.BootName.table (machine_of c.self.inside) _ c.self.view_is c.requires.held) _ _ _
    (kills g.N.BootName.table (machine_of c.self.inside) _ c.self.view_is c.self.invariant.consistent c.requires.held c.args.group c.requires.there inside c.requires.alive _
    c.note.ensures.only.groups c.note.ensures.only.counts c.note.ensures.only.peaks _ (ap (λ (n : ℕ). slice_set c.self.inside.killed.items n true) value))
    c.note.ensures.only.pages (length-set c.self.inside.killed.items c.number.result true) _ (c.make_step.ensures.notes _ _ (search rules)) _ c.self.view_is).steps

pub returns-clause-visit : goal.returns-clause-visit
returns-clause-visit g c =
    let value = c.number.ensures.value in
    let inside = there_inside g.N.BootName.table (machine_of c.self.inside) _ c.self.view_is c.self.invariant.consistent c.prove_charges.ensures.legal c.args.group c.requires.there in
    (grouped g.N.BootName.table (machine_of c.self.inside) c.self.invariant.consistent (held_here g.N.BootName.table (machine_of c.self.inside) _ c.self.view_is c.requires.held) _ _ _
    (kills g.N.BootName.table (machine_of c.self.inside) _ c.self.view_is c.self.invariant.consistent c.requires.held c.args.group c.requires.there inside c.requires.alive _
    c.note.ensures.only.groups c.note.ensures.only.counts c.note.ensures.only.peaks _ (ap (λ (n : ℕ). slice_set c.self.inside.killed.items n true) value))
    c.note.ensures.only.pages (length-set c.self.inside.killed.items c.number.result true) _ (c.make_step.ensures.notes _ _ (search rules)) _ c.self.view_is).visit

pub note-requires : goal.note-requires
note-requires g c = subst (λ (m : KnownMachine). IsTrue (has_group m.ledger.groups c.args.group)) (sym c.self.view_is) c.requires.there

pub returns-clause-machine : goal.returns-clause-machine
returns-clause-machine g c = λ i. record (c.self.view_is i) {
  ledger = (c.note.ensures.noted ∙ ap (λ (m : KnownMachine). with_kill_noted m.ledger c.args.group) c.self.view_is) i;
  killed = (ap (λ (n : ℕ). slice_set c.self.inside.killed.items n true) c.number.ensures.value
      ∙ ap (λ (m : KnownMachine). slice_set m.killed c.args.group true) c.self.view_is) i;
  run = record { past = c.make_step.new.past; watch = c.make_step.new.watch };
}

pub index_mut-requires : goal.index_mut-requires
index_mut-requires g c =
    let value = c.number.ensures.value in
    let inside = there_inside g.N.BootName.table (machine_of c.self.inside) _ c.self.view_is c.self.invariant.consistent c.prove_charges.ensures.legal c.args.group c.requires.there in
    omega (arith, value, inside)
