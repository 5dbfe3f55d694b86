use Rattle.std.proofs.Common.{ℕ, ◌≤◌, ◌<◌, ◌^◌, ap, refl, sym, subst, ◌∙◌, rules, arith, IsTrue, ◌+◌}
use Rattle.group_tree.specs.{has_group, IsLowestOver}
use Rattle.group_charge.specs.Charges.{current_of}
use Rattle.zone_blocks.specs.Zone.{BuddyZone}
use Rattle.step_rules.specs.declared.step.Action.TheVariants.{Grant}
use Rattle.step_rules.specs.declared.step.Answer.TheVariants.{Over}
use Rattle.step_rules.specs.After.{zone_makes}
use Rattle.mem_machine.specs.{AreCleanCounts, clean_joined, machine_of, KnownMachine, Records, over_steps, taken_steps, unplaced_steps}
use Rattle.mem_machine.proofs.Clean.{clean_placed, clean_room}
use Rattle.mem_machine.proofs.GroupSteps.{may_group, there_inside}
use Rattle.mem_machine.proofs.Made.{held_here}
use Rattle.mem_machine.proofs.Noted.{legal_step}
use Rattle.mem_machine.proofs.Staying.{owners_stay, sums_stay}
use Rattle.mem_machine.proofs.TakesBlocks.{granted_may, head_inside, none_all, refused_all, refused_step, taken_all, taken_inside, taken_may, taken_notes, unplaced_may, unplaced_notes, was_away}
use Rattle.mem_machine.proofs.ZoneSteps.{same_books}
use Rattle.mem_machine.proofs.machine.Machine.take_block.Goals as goal

-- ---- a limit has no room

pub make_step-requires-clause-legal : goal.make_step-requires-clause-legal
make_step-requires-clause-legal g c =
    let t = g.N.BootName.table in
    let m = machine_of c.self.inside in
    legal_step _ _ _ _ (may_group t m (zone_makes (Grant c.args.group c.frames-pages.result) (Over c.in-Err.over.group)) c.self.inside.charges c.self.inside.killed.items
    (refused_step t m _ c.self.view_is c.self.invariant.consistent c.prove_charges.ensures.legal c.requires.visit.held c.args.group _ c.frames-pages.result
    c.in-Err.over.group c.requires.charges c.in-Err.ensures.over c.self.inside.charges refl)) tt (search rules)

pub invariant_of-self : goal.invariant_of-self
invariant_of-self g c =
    let t = g.N.BootName.table in
    let m = machine_of c.self.inside in
    let all = refused_all t m _ c.self.view_is c.self.invariant.consistent c.prove_charges.ensures.legal c.requires.visit.held c.args.group _ c.frames-pages.result
    c.in-Err.over.group c.requires.charges c.in-Err.ensures.over _ c.in-Err.ensures.unchanged _ (c.make_step.ensures.notes _ _ (search rules)) in
    record { consistent = all.consistent; free = c.self.invariant.free; clean = c.self.invariant.clean; sums = all.sums _ c.self.invariant.sums; owners = all.owners _ c.self.invariant.owners }

pub returns-in-Err-clause-steps : goal.returns-in-Err-clause-steps
returns-in-Err-clause-steps g c =
    let t = g.N.BootName.table in
    let m = machine_of c.self.inside in
    (refused_all t m _ c.self.view_is c.self.invariant.consistent c.prove_charges.ensures.legal c.requires.visit.held c.args.group _ (2 ^ c.args.order)
    c.in-Err.over.group c.requires.charges
    (subst (λ (n : ℕ). IsLowestOver m.ledger.groups (current_of m.ledger) c.args.group n c.in-Err.over.group) c.frames-pages.ensures.frames c.in-Err.ensures.over) _
    c.in-Err.ensures.unchanged _
    (subst (λ (n : ℕ). Records t m.run (over_steps c.args.group n c.in-Err.over.group) (record { past = c.make_step.new.past; watch = c.make_step.new.watch }))
    c.frames-pages.ensures.frames (c.make_step.ensures.notes _ _ (search rules)))).steps

pub returns-in-Err-clause-visit : goal.returns-in-Err-clause-visit
returns-in-Err-clause-visit g c =
    let t = g.N.BootName.table in
    let m = machine_of c.self.inside in
    (refused_all t m _ c.self.view_is c.self.invariant.consistent c.prove_charges.ensures.legal c.requires.visit.held c.args.group _ c.frames-pages.result
    c.in-Err.over.group c.requires.charges c.in-Err.ensures.over _ c.in-Err.ensures.unchanged _ (c.make_step.ensures.notes _ _ (search rules))).visit _ c.requires.visit

-- ---- no block

pub make_step-requires-2-clause-legal : goal.make_step-requires-2-clause-legal
make_step-requires-2-clause-legal g c =
    legal_step _ _ _ _ (granted_may g.N.BootName.table (machine_of c.self.inside) _ c.self.view_is c.self.invariant.consistent c.prove_charges.ensures.legal c.requires.visit.held c.args.group
    c.args.order c.frames-pages.result c.requires.charges (c.in_default.ensures.granted.0 refl)).0 tt (search rules)

pub make_step-requires-in_default-take-clause-legal : goal.make_step-requires-in_default-take-clause-legal
make_step-requires-in_default-take-clause-legal g c =
    let may = unplaced_may g.N.BootName.table (machine_of c.self.inside) _ c.self.view_is c.self.invariant.consistent c.prove_charges.ensures.legal c.requires.visit.held c.args.group
    c.args.order _ c.frames-pages.ensures.frames c.requires.charges (c.in_default.ensures.granted.0 refl) c.in_default-take.ensures.taken in
    legal_step _ _ _ _ (may.1 _ (c.make_step-2.ensures.run _ _ (search rules))).0 tt (search rules)

pub make_step-requires-in_default-take-2-clause-legal : goal.make_step-requires-in_default-take-2-clause-legal
make_step-requires-in_default-take-2-clause-legal g c =
    let may = unplaced_may g.N.BootName.table (machine_of c.self.inside) _ c.self.view_is c.self.invariant.consistent c.prove_charges.ensures.legal c.requires.visit.held c.args.group
    c.args.order _ c.frames-pages.ensures.frames c.requires.charges (c.in_default.ensures.granted.0 refl) c.in_default-take.ensures.taken in
    legal_step _ _ _ _ ((may.1 _ (c.make_step-2.ensures.run _ _ (search rules))).1 _ (c.make_step-in_default-take.ensures.run _ _ (search rules))).0 tt (search rules)

pub invariant_of-self-in_default-take : goal.invariant_of-self-in_default-take
invariant_of-self-in_default-take g c =
    let t = g.N.BootName.table in
    let m = machine_of c.self.inside in
    let noted = unplaced_notes t _ _ _ _ c.args.group c.args.order _ c.frames-pages.ensures.frames (c.make_step-2.ensures.notes _ _ (search rules)) (c.make_step-in_default-take.ensures.notes _ _ (search rules)) (c.make_step-in_default-take-2.ensures.notes _ _ (search rules)) in
    let held = held_here t m _ c.self.view_is c.requires.visit.held in
    record {
      consistent = (none_all t m _ c.self.view_is c.self.invariant.consistent c.prove_charges.ensures.legal c.requires.visit.held c.args.group c.args.order _
          c.frames-pages.ensures.frames c.requires.charges (c.in_default.ensures.granted.0 refl) _ _ c.in_default.ensures.charged c.in_default.ensures.pages
          c.uncharge.ensures.uncharged _ (ap (λ (z : BuddyZone). z.blocks) c.in_default-take.ensures.none) c.in_default-take.ensures.taken _ noted).consistent;
      free = ap (λ (z : BuddyZone). z.free) c.in_default-take.ensures.none ∙ c.self.invariant.free;
      clean = c.self.invariant.clean;
      sums = sums_stay t m held (unplaced_steps c.args.group c.args.order) _ noted (same_books _ _ refl) _ c.self.invariant.sums;
      owners = owners_stay t m held (unplaced_steps c.args.group c.args.order) _ noted (same_books _ _ refl) _ c.self.invariant.owners;
    }

pub returns-in_default-take : goal.returns-in_default-take
returns-in_default-take g c =
    let t = g.N.BootName.table in
    let m = machine_of c.self.inside in
    let all = none_all t m _ c.self.view_is c.self.invariant.consistent c.prove_charges.ensures.legal c.requires.visit.held c.args.group c.args.order _
    c.frames-pages.ensures.frames c.requires.charges (c.in_default.ensures.granted.0 refl) _ _ c.in_default.ensures.charged c.in_default.ensures.pages
    c.uncharge.ensures.uncharged _ (ap (λ (z : BuddyZone). z.blocks) c.in_default-take.ensures.none) c.in_default-take.ensures.taken _
    (unplaced_notes t _ _ _ _ c.args.group c.args.order _ c.frames-pages.ensures.frames (c.make_step-2.ensures.notes _ _ (search rules)) (c.make_step-in_default-take.ensures.notes _ _ (search rules)) (c.make_step-in_default-take-2.ensures.notes _ _ (search rules))) in
    record { takes = search rules; refuses = all.none; cpu = search rules; visit = all.visit _ c.requires.visit; steps = all.steps }

-- ---- a block

pub unreachable-requires : goal.unreachable-requires
unreachable-requires g c =
    let past : g.N.BootName.table.frames ≤ c.in-Some.block.at = search rules in
    let inside = head_inside _ _ c.self.invariant.consistent.areas _ _ c.self.invariant.free _ c.in-Some.block c.in-Some.ensures.taken c.in-Some.ensures.frames in
    let sized = c.self.invariant.consistent.sizes.frame_states in
    omega (arith, past, inside, sized)

pub place_unit-requires : goal.place_unit-requires
place_unit-requires g c =
    (taken_inside _ _ c.self.invariant.consistent.areas _ _ c.self.invariant.free _ c.in-Some.block c.in-Some.ensures.taken c.in-Some.ensures.frames).inside

pub join_list-requires-clause-few : goal.join_list-requires-clause-few
join_list-requires-clause-few g c =
    clean_room g.N.BootName.table (machine_of c.self.inside) c.self.invariant.consistent _ c.self.invariant.clean c.args.group

pub join_list-requires-clause-list : goal.join_list-requires-clause-list
join_list-requires-clause-list g c =
    let low = there_inside g.N.BootName.table (machine_of c.self.inside) _ c.self.view_is c.self.invariant.consistent c.prove_charges.ensures.legal c.args.group c.requires.charges.there in
    let sizes = c.self.invariant.consistent.sizes in
    omega (arith, low, sizes.killed, sizes.lists)

pub join_list-requires-clause-count : goal.join_list-requires-clause-count
join_list-requires-clause-count g c =
    let low = there_inside g.N.BootName.table (machine_of c.self.inside) _ c.self.view_is c.self.invariant.consistent c.prove_charges.ensures.legal c.args.group c.requires.charges.there in
    let sized = c.self.invariant.clean.size in
    omega (arith, low, sized)

pub join_list-requires-clause-away : goal.join_list-requires-clause-away
join_list-requires-clause-away g c =
    was_away g.N.BootName.table (machine_of c.self.inside) c.self.invariant.consistent _ _ c.in-Some.block c.self.invariant.free _ c.in-Some.ensures.taken
    c.in-Some.ensures.frames

pub make_step-requires-3-clause-legal : goal.make_step-requires-3-clause-legal
make_step-requires-3-clause-legal g c =
    let may = taken_may g.N.BootName.table (machine_of c.self.inside) _ c.self.view_is c.self.invariant.consistent c.prove_charges.ensures.legal c.requires.visit.held c.args.group
    c.args.order _ c.frames-pages.ensures.frames c.requires.charges (c.in_default.ensures.granted.0 refl) _ _ c.in-Some.block c.self.invariant.free
    c.in-Some.ensures.taken c.in-Some.ensures.frames c.in-Some-frame.head c.in-Some-frame.ensures.0 in
    legal_step _ _ _ _ (may.1 _ (c.make_step-2.ensures.run _ _ (search rules))).0 tt (search rules)

pub publish-requires-clause-legal : goal.publish-requires-clause-legal
publish-requires-clause-legal g c =
    let may = taken_may g.N.BootName.table (machine_of c.self.inside) _ c.self.view_is c.self.invariant.consistent c.prove_charges.ensures.legal c.requires.visit.held c.args.group
    c.args.order _ c.frames-pages.ensures.frames c.requires.charges (c.in_default.ensures.granted.0 refl) _ _ c.in-Some.block c.self.invariant.free
    c.in-Some.ensures.taken c.in-Some.ensures.frames c.in-Some-frame.head c.in-Some-frame.ensures.0 in
    (may.1 _ (c.make_step-2.ensures.run _ _ (search rules))).1 _ (c.make_step-3.ensures.run _ _ (search rules))

pub invariant_of-self-2 : goal.invariant_of-self-2
invariant_of-self-2 g c =
    let t = g.N.BootName.table in
    let m = machine_of c.self.inside in
    let j = c.join_list.ensures in
    let noted = taken_notes t _ _ _ _ c.args.group c.args.order _ c.in-Some-frame.head c.in-Some.block c.frames-pages.ensures.frames c.in-Some-frame.ensures.0
    c.in-Some.ensures.taken.order_is (c.make_step-2.ensures.notes _ _ (search rules)) (c.make_step-3.ensures.notes _ _ (search rules)) c.publish.ensures in
    let all = taken_all t m _ c.self.view_is c.self.invariant.consistent c.prove_charges.ensures.legal c.requires.visit.held c.args.group c.args.order _
    c.frames-pages.ensures.frames c.requires.charges (c.in_default.ensures.granted.0 refl) _ c.in_default.ensures.charged c.in_default.ensures.pages _ _ c.in-Some.block _
    c.self.invariant.free c.in-Some.ensures.taken c.in-Some.ensures.frames c.in-Some.ensures.areas _ c.place_unit.ensures c.in-Some-frame.head c.in-Some-frame.ensures.0
    _ _ (record { joins = j.joins; stand = j.lists; frames = j.frames; groups = j.groups }) _ noted in
    let held = held_here t m _ c.self.view_is c.requires.visit.held in
    record {
      consistent = all.consistent;
      free = all.free_is;
      clean = subst (AreCleanCounts _ _ _) (sym (j.clean ∙ ap (λ (o : ℕ). clean_joined c.args.group o c.self.inside.clean.items) (sym c.in-Some.ensures.taken.order_is)))
          (clean_placed t _ all.consistent _ _ _ c.args.group c.in-Some.block _ (head_inside _ _ c.self.invariant.consistent.areas _ _ c.self.invariant.free _ c.in-Some.block c.in-Some.ensures.taken c.in-Some.ensures.frames)
          c.place_unit.ensures j.joins j.used j.dirt (was_away t m c.self.invariant.consistent _ _ c.in-Some.block c.self.invariant.free _ c.in-Some.ensures.taken
          c.in-Some.ensures.frames) (there_inside t m _ c.self.view_is c.self.invariant.consistent c.prove_charges.ensures.legal c.args.group c.requires.charges.there) c.self.invariant.clean);
      sums = sums_stay t m held (taken_steps c.args.group c.args.order c.in-Some-frame.head) _ noted (same_books _ _ refl) _ c.self.invariant.sums;
      owners = owners_stay t m held (taken_steps c.args.group c.args.order c.in-Some-frame.head) _ noted (same_books _ _ refl) _ c.self.invariant.owners;
    }

pub returns : goal.returns
returns g c =
    let t = g.N.BootName.table in
    let m = machine_of c.self.inside in
    let j = c.join_list.ensures in
    let all = taken_all t m _ c.self.view_is c.self.invariant.consistent c.prove_charges.ensures.legal c.requires.visit.held c.args.group c.args.order _
    c.frames-pages.ensures.frames c.requires.charges (c.in_default.ensures.granted.0 refl) _ c.in_default.ensures.charged c.in_default.ensures.pages _ _ c.in-Some.block _
    c.self.invariant.free c.in-Some.ensures.taken c.in-Some.ensures.frames c.in-Some.ensures.areas _ c.place_unit.ensures c.in-Some-frame.head c.in-Some-frame.ensures.0
    _ _ (record { joins = j.joins; stand = j.lists; frames = j.frames; groups = j.groups }) _
    (taken_notes t _ _ _ _ c.args.group c.args.order _ c.in-Some-frame.head c.in-Some.block c.frames-pages.ensures.frames c.in-Some-frame.ensures.0
    c.in-Some.ensures.taken.order_is (c.make_step-2.ensures.notes _ _ (search rules)) (c.make_step-3.ensures.notes _ _ (search rules)) c.publish.ensures) in
    record { takes = all.takes; refuses = search rules; cpu = search rules; visit = all.visit _ c.requires.visit; steps = all.steps }

-- ---- what the calls ask for

pub try_charge-requires-clause-there : goal.try_charge-requires-clause-there
try_charge-requires-clause-there g c = subst (λ (m : KnownMachine). IsTrue (has_group m.ledger.groups c.args.group)) (sym c.self.view_is) c.requires.charges.there

pub try_charge-requires-clause-fits : goal.try_charge-requires-clause-fits
try_charge-requires-clause-fits g c =
    subst (λ (x : KnownMachine × ℕ). current_of x.0.ledger 0 + x.1 < 2 ^ 32) (λ i. (sym c.self.view_is i, sym c.frames-pages.ensures.frames i)) c.requires.charges.fits
