use Rattle.std.proofs.Common.{ℕ, List, [], ◌∷◌, false, arith, ap, refl, rules, sym, subst}
use Rattle.std.specs.Prelude.{slice_set}
use Rattle.std.proofs.lemmas.List.{length-set}
use Rattle.group_tree.proofs.GroupLemmas.{can_make}
use Rattle.step_rules.specs.declared.step.Action.TheVariants.{Make}
use Rattle.step_rules.specs.declared.step.Answer.TheVariants.{Number}
use Rattle.step_rules.specs.After.{zone_makes}
use Rattle.mem_machine.specs.{AreCleanCounts, machine_of, MayTake, Records}
use Rattle.mem_machine.proofs.GroupSteps.{adds, grouped, made_inside, makes_group}
use Rattle.mem_machine.proofs.Made.{held_here}
use Rattle.mem_machine.proofs.Noted.{legal_step}
use Rattle.mem_machine.proofs.machine.Machine.make.Goals as goal

pub make_step-requires-clause-held : goal.make_step-requires-clause-held
make_step-requires-clause-held g c = held_here g.N.BootName.table (machine_of c.self.inside) _ c.self.view_is c.requires.held

pub make_step-requires-clause-legal : goal.make_step-requires-clause-legal
make_step-requires-clause-legal g c =
    let value = c.number-number.ensures.value in
    let inside = made_inside g.N.BootName.table (machine_of c.self.inside) c.self.invariant.consistent c.in_ok-group.group c.args.path.now c.in_ok-group.ensures.refused c.in_ok-group.ensures.least in
    legal_step _ _ _ _ (subst (λ (path : List ℕ). MayTake g.N.BootName.table c.self.inside.past (zone_makes (Make path) (Number c.in_ok-group.group))) (sym c.in-Some.ensures.1)
    (makes_group g.N.BootName.table (machine_of c.self.inside) _ c.self.view_is c.self.invariant.consistent c.requires.held c.in_ok-group.group c.args.path.now inside c.in_ok-group.ensures.refused
    c.prove_charges.ensures.legal c.in_ok-group.ensures.least _ c.in_ok-group.ensures.made _ (ap (λ (n : ℕ). slice_set c.self.inside.killed.items n false) value)).step) tt (search rules)

pub invariant_of-self-2 : goal.invariant_of-self-2
invariant_of-self-2 g c =
    let value = c.number-number.ensures.value in
    let inside = made_inside g.N.BootName.table (machine_of c.self.inside) c.self.invariant.consistent c.in_ok-group.group c.args.path.now c.in_ok-group.ensures.refused c.in_ok-group.ensures.least in
    let all = grouped g.N.BootName.table (machine_of c.self.inside) c.self.invariant.consistent (held_here g.N.BootName.table (machine_of c.self.inside) _ c.self.view_is c.requires.held) _ _ _
    (makes_group g.N.BootName.table (machine_of c.self.inside) _ c.self.view_is c.self.invariant.consistent c.requires.held c.in_ok-group.group c.args.path.now inside c.in_ok-group.ensures.refused
    c.prove_charges.ensures.legal c.in_ok-group.ensures.least _ c.in_ok-group.ensures.made _ (ap (λ (n : ℕ). slice_set c.self.inside.killed.items n false) value))
    c.in_ok-group.ensures.pages (length-set c.self.inside.killed.items c.number-number.result false) _ (subst (λ (path : List ℕ). Records g.N.BootName.table (machine_of c.self.inside).run (zone_makes (Make path) (Number c.in_ok-group.group) ∷ [])
    (record { past = c.make_step.new.past; watch = c.make_step.new.watch })) c.in-Some.ensures.1 (c.make_step.ensures.notes _ _ (search rules))) _ refl in
    record { consistent = all.consistent; free = c.self.invariant.free; clean = subst (λ (room : ℕ). AreCleanCounts room c.self.inside.frame_states.items c.self.inside.links c.self.inside.clean.items) (sym (length-set c.self.inside.killed.items c.number-number.result false)) c.self.invariant.clean; sums = all.sums _ c.self.invariant.sums; owners = all.owners _ c.self.invariant.owners }

pub returns-clause-steps : goal.returns-clause-steps
returns-clause-steps g c =
    let value = c.number-number.ensures.value in
    let inside = made_inside g.N.BootName.table (machine_of c.self.inside) c.self.invariant.consistent c.in_ok-group.group c.args.path.now c.in_ok-group.ensures.refused c.in_ok-group.ensures.least in
    (grouped g.N.BootName.table (machine_of c.self.inside) c.self.invariant.consistent (held_here g.N.BootName.table (machine_of c.self.inside) _ c.self.view_is c.requires.held) _ _ _
    (makes_group g.N.BootName.table (machine_of c.self.inside) _ c.self.view_is c.self.invariant.consistent c.requires.held c.in_ok-group.group c.args.path.now inside c.in_ok-group.ensures.refused
    c.prove_charges.ensures.legal c.in_ok-group.ensures.least _ c.in_ok-group.ensures.made _ (ap (λ (n : ℕ). slice_set c.self.inside.killed.items n false) value))
    c.in_ok-group.ensures.pages (length-set c.self.inside.killed.items c.number-number.result false) _ (subst (λ (path : List ℕ). Records g.N.BootName.table (machine_of c.self.inside).run (zone_makes (Make path) (Number c.in_ok-group.group) ∷ [])
    (record { past = c.make_step.new.past; watch = c.make_step.new.watch })) c.in-Some.ensures.1 (c.make_step.ensures.notes _ _ (search rules))) _ c.self.view_is).steps

pub returns-clause-visit : goal.returns-clause-visit
returns-clause-visit g c =
    let value = c.number-number.ensures.value in
    let inside = made_inside g.N.BootName.table (machine_of c.self.inside) c.self.invariant.consistent c.in_ok-group.group c.args.path.now c.in_ok-group.ensures.refused c.in_ok-group.ensures.least in
    (grouped g.N.BootName.table (machine_of c.self.inside) c.self.invariant.consistent (held_here g.N.BootName.table (machine_of c.self.inside) _ c.self.view_is c.requires.held) _ _ _
    (makes_group g.N.BootName.table (machine_of c.self.inside) _ c.self.view_is c.self.invariant.consistent c.requires.held c.in_ok-group.group c.args.path.now inside c.in_ok-group.ensures.refused
    c.prove_charges.ensures.legal c.in_ok-group.ensures.least _ c.in_ok-group.ensures.made _ (ap (λ (n : ℕ). slice_set c.self.inside.killed.items n false) value))
    c.in_ok-group.ensures.pages (length-set c.self.inside.killed.items c.number-number.result false) _ (subst (λ (path : List ℕ). Records g.N.BootName.table (machine_of c.self.inside).run (zone_makes (Make path) (Number c.in_ok-group.group) ∷ [])
    (record { past = c.make_step.new.past; watch = c.make_step.new.watch })) c.in-Some.ensures.1 (c.make_step.ensures.notes _ _ (search rules))) _ c.self.view_is).visit

pub index_mut-requires : goal.index_mut-requires
index_mut-requires g c =
    let value = c.number-number.ensures.value in
    let inside = made_inside g.N.BootName.table (machine_of c.self.inside) c.self.invariant.consistent c.in_ok-group.group c.args.path.now c.in_ok-group.ensures.refused c.in_ok-group.ensures.least in
    omega (arith, value, inside)

pub unreachable-requires : goal.unreachable-requires
unreachable-requires g c = c.in_default.ensures (can_make _ _ (sym c.in_ok-group.ensures.refused)).short

pub returns-clause-made : goal.returns-clause-made
returns-clause-made g c =
    adds g.N.BootName.table (machine_of c.self.inside) _ c.self.view_is c.self.invariant.consistent c.requires.held _ _ c.in_ok-group.group c.args.path.now
    c.in_ok-group.ensures.least c.in_ok-group.ensures.made (ap (λ (n : ℕ). slice_set c.self.inside.killed.items n false) c.number-number.ensures.value) _

pub invariant_of-self : goal.invariant_of-self
invariant_of-self g c = search rules
