use Rattle.std.proofs.Common.{refl, subst, sym, arith, rules}
use Rattle.step_rules.specs.declared.step.Action.TheVariants.{Put}
use Rattle.step_rules.specs.declared.step.Answer.TheVariants as answer
use Rattle.mem_machine.specs.declared.releasing.Released.TheVariants.{Left, Returned}
use Rattle.mem_machine.specs.{AreCleanCounts, machine_of, release_steps}
use Rattle.mem_machine.proofs.Clean.{clean_after_free, clean_left_here, clean_there_here}
use Rattle.mem_machine.proofs.Freeing.{unit_in_use, unit_charged}
use Rattle.mem_machine.proofs.Releases.{left_all, left_few, notes_back, notes_of_zone, put_may, put_returns, read_head, return_may, returned_all}
use Rattle.mem_machine.proofs.AtTable.{made_at, may_at}
use Rattle.mem_machine.proofs.Made.{held_here}
use Rattle.mem_machine.proofs.Staying.{owners_stay, sums_stay}
use Rattle.mem_machine.proofs.ZoneSteps.{same_books}
use Rattle.mem_machine.proofs.machine.Machine.put_zone_reference.Goals as goal

pub leave_list-requires-clause-counted : goal.leave_list-requires-clause-counted
leave_list-requires-clause-counted g c =
    let t = g.N.BootName.table in
    let m = machine_of c.self.inside in
    let head = read_head t m c.self.invariant.consistent c.args.head _ c.requires.frame c.number-at.ensures _ c.in-Head.unit c.index.ensures c.in-Head.is in
    clean_there_here t m _ c.self.view_is c.self.invariant.consistent c.args.head _ c.requires.frame c.number-at.ensures c.requires.kept c.in-Head.unit head _ c.self.invariant.clean

pub put_held-requires-clause-legal : goal.put_held-requires-clause-legal
put_held-requires-clause-legal g c = may_at _ _ c.args.tables.now.words_are 0 refl c.self.inside.past (Put c.args.head)
    (put_may g.N.BootName.table (machine_of c.self.inside) _ c.self.view_is c.self.invariant.consistent c.args.head c.requires.frame c.requires.kept c.requires.held)

pub overflow_cast-still : goal.overflow_cast-still
overflow_cast-still g c =
    let few = left_few g.N.BootName.table (machine_of c.self.inside).run.past _ c.args.head _
    (held_here g.N.BootName.table (machine_of c.self.inside) _ c.self.view_is c.requires.held)
    (made_at _ _ c.args.tables.now.words_are 0 refl _ _ _ _ c.in-Left.ensures) in
    let small = few.1 in
    omega (arith, small)

pub invariant_of-self : goal.invariant_of-self
invariant_of-self g c =
    let t = g.N.BootName.table in
    let m = machine_of c.self.inside in
    let held = held_here t m _ c.self.view_is c.requires.held in
    let made = made_at _ _ c.args.tables.now.words_are 0 refl _ _ _ _ c.in-Left.ensures in
    let noted = notes_of_zone t m.run _ c.args.head _ c.number-at.ensures (λ x. Put x) (answer.Left c.in-Left.left) made (c.take.ensures _ _ (search rules)) in
    let all = left_all t m _ c.self.view_is c.self.invariant.consistent c.args.head _ c.requires.frame c.number-at.ensures c.requires.kept c.requires.held _ _
    c.leave_list.ensures.leaves c.leave_list.ensures.lists c.leave_list.ensures.frames c.leave_list.ensures.groups c.in-Left.left
    (left_few t m.run.past _ c.args.head _ held made).0 _ noted _ c.self.invariant.free in
    record {
      consistent = all.consistent;
      free = all.free_is;
      clean = subst (AreCleanCounts _ _ _) (sym c.leave_list.ensures.clean)
          (clean_left_here t m _ c.self.view_is c.self.invariant.consistent c.args.head _ c.requires.frame c.number-at.ensures c.requires.kept c.in-Head.unit
          (read_head t m c.self.invariant.consistent c.args.head _ c.requires.frame c.number-at.ensures _ c.in-Head.unit c.index.ensures c.in-Head.is) _
          c.self.invariant.clean _ _ c.leave_list.ensures.leaves);
      sums = sums_stay t m held (release_steps c.args.head (Left c.in-Left.left)) _ noted (same_books _ _ refl) _ c.self.invariant.sums;
      owners = owners_stay t m held (release_steps c.args.head (Left c.in-Left.left)) _ noted (same_books _ _ refl) _ c.self.invariant.owners;
    }

pub returns-in-Left : goal.returns-in-Left
returns-in-Left g c =
    let t = g.N.BootName.table in
    let m = machine_of c.self.inside in
    let held = held_here t m _ c.self.view_is c.requires.held in
    let made = made_at _ _ c.args.tables.now.words_are 0 refl _ _ _ _ c.in-Left.ensures in
    let noted = notes_of_zone t m.run _ c.args.head _ c.number-at.ensures (λ x. Put x) (answer.Left c.in-Left.left) made (c.take.ensures _ _ (search rules)) in
    let all = left_all t m _ c.self.view_is c.self.invariant.consistent c.args.head _ c.requires.frame c.number-at.ensures c.requires.kept c.requires.held _ _
    c.leave_list.ensures.leaves c.leave_list.ensures.lists c.leave_list.ensures.frames c.leave_list.ensures.groups c.in-Left.left
    (left_few t m.run.past _ c.args.head _ held made).0 _ noted _ c.self.invariant.free in
    record { releases = all.releases; visit = all.visit; steps = all.steps }

pub return_unit-requires : goal.return_unit-requires
return_unit-requires g c =
    let t = g.N.BootName.table in
    let m = machine_of c.self.inside in
    let head = read_head t m c.self.invariant.consistent c.args.head _ c.requires.frame c.number-at.ensures _ c.in-Head.unit c.index.ensures c.in-Head.is in
    record {
      held = (made_at _ _ c.args.tables.now.words_are 0 refl _ _ _ _ c.in-Last.ensures).held;
      legal = return_may t m.run.past _ c.args.head _ c.number-at.ensures (Put c.args.head) answer.Last (made_at _ _ c.args.tables.now.words_are 0 refl _ _ _ _ c.in-Last.ensures)
          (put_returns t m _ c.self.view_is c.self.invariant.consistent c.args.head _ c.requires.frame c.number-at.ensures c.requires.kept c.requires.held c.in-Head.unit head);
      in_use = unit_in_use _ _ _ c.in-Head.unit c.self.invariant.free c.self.invariant.consistent.units head;
      inside = (c.self.invariant.consistent.units.heads _ c.in-Head.unit head).block.inside;
      charged = unit_charged t m c.self.invariant.consistent _ c.in-Head.unit head;
    }

pub invariant_of-self-in-Last : goal.invariant_of-self-in-Last
invariant_of-self-in-Last g c =
    let t = g.N.BootName.table in
    let m = machine_of c.self.inside in
    let head = read_head t m c.self.invariant.consistent c.args.head _ c.requires.frame c.number-at.ensures _ c.in-Head.unit c.index.ensures c.in-Head.is in
    let noted = notes_back t m.run _ c.args.head _ c.number-at.ensures (λ x. Put x) answer.Last
    (notes_of_zone t m.run _ c.args.head _ c.number-at.ensures (λ x. Put x) answer.Last
    (made_at _ _ c.args.tables.now.words_are 0 refl _ _ _ _ c.in-Last.ensures) (c.take-in-Last.ensures _ _ (search rules))) _ c.return_unit.ensures.notes in
    let all = returned_all t m _ c.self.view_is c.self.invariant.consistent c.args.head _ c.requires.frame c.number-at.ensures c.requires.kept c.requires.held _ _
    c.leave_list.ensures.leaves c.leave_list.ensures.lists c.leave_list.ensures.frames c.leave_list.ensures.groups c.in-Head.unit head _ _ _ _ _ _
    c.self.invariant.free c.return_unit.ensures.frame_states c.return_unit.ensures.frames c.return_unit.ensures.areas c.return_unit.ensures.charges
    c.with_last_put-self-inside.ensures _ noted in
    let held = held_here t m _ c.self.view_is c.requires.held in
    record {
      consistent = all.consistent;
      free = all.free_is;
      clean = clean_after_free t _ all.consistent _ _ _ _ c.return_unit.ensures.frame_states (subst (AreCleanCounts _ _ _) (sym c.leave_list.ensures.clean)
          (clean_left_here t m _ c.self.view_is c.self.invariant.consistent c.args.head _ c.requires.frame c.number-at.ensures c.requires.kept c.in-Head.unit head _
          c.self.invariant.clean _ _ c.leave_list.ensures.leaves));
      sums = sums_stay t m held (release_steps c.args.head Returned) _ noted (same_books _ _ refl) _ c.self.invariant.sums;
      owners = owners_stay t m held (release_steps c.args.head Returned) _ noted (same_books _ _ refl) _ c.self.invariant.owners;
    }

pub returns-in-Last : goal.returns-in-Last
returns-in-Last g c =
    let t = g.N.BootName.table in
    let m = machine_of c.self.inside in
    let head = read_head t m c.self.invariant.consistent c.args.head _ c.requires.frame c.number-at.ensures _ c.in-Head.unit c.index.ensures c.in-Head.is in
    let noted = notes_back t m.run _ c.args.head _ c.number-at.ensures (λ x. Put x) answer.Last
    (notes_of_zone t m.run _ c.args.head _ c.number-at.ensures (λ x. Put x) answer.Last
    (made_at _ _ c.args.tables.now.words_are 0 refl _ _ _ _ c.in-Last.ensures) (c.take-in-Last.ensures _ _ (search rules))) _ c.return_unit.ensures.notes in
    let all = returned_all t m _ c.self.view_is c.self.invariant.consistent c.args.head _ c.requires.frame c.number-at.ensures c.requires.kept c.requires.held _ _
    c.leave_list.ensures.leaves c.leave_list.ensures.lists c.leave_list.ensures.frames c.leave_list.ensures.groups c.in-Head.unit head _ _ _ _ _ _
    c.self.invariant.free c.return_unit.ensures.frame_states c.return_unit.ensures.frames c.return_unit.ensures.areas c.return_unit.ensures.charges
    c.with_last_put-self-inside.ensures _ noted in
    record { releases = all.releases; visit = all.visit; steps = all.steps }

pub index-requires : goal.index-requires
index-requires g c = omega (arith, c.requires.frame, c.number-at.ensures, c.self.invariant.consistent.sizes.frame_states)
