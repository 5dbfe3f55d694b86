use Rattle.std.proofs.Common.{Some, None, refl, subst, sym, arith, rules}
use Rattle.step_rules.specs.declared.step.Action.TheVariants.{Freeze}
use Rattle.step_rules.specs.declared.step.Answer.TheVariants.{Done, Missed}
use Rattle.mem_machine.specs.{AreCleanCounts, evict_steps, machine_of}
use Rattle.mem_machine.proofs.Clean.{clean_after_free, clean_left_here, clean_there_here}
use Rattle.mem_machine.proofs.Freeing.{unit_in_use, unit_charged}
use Rattle.mem_machine.proofs.Releases.{notes_back, notes_of_zone, read_head, return_may}
use Rattle.mem_machine.proofs.Evicts.{evict_returns, evicted_all, freeze_may, missed_all}
use Rattle.mem_machine.proofs.AtTable.{made_at, may_at}
use Rattle.mem_machine.proofs.Made.{held_here}
use Rattle.mem_machine.proofs.Staying.{owners_stay, sums_stay}
use Rattle.mem_machine.proofs.ZoneSteps.{same_books}
use Rattle.mem_machine.proofs.machine.Machine.evict.Goals as goal

pub freeze-requires-clause-legal : goal.freeze-requires-clause-legal
freeze-requires-clause-legal g c = may_at _ _ c.args.tables.now.words_are 0 refl c.self.inside.past (Freeze c.args.head 1)
    (freeze_may g.N.BootName.table (machine_of c.self.inside) _ c.self.view_is c.self.invariant.consistent c.args.head c.requires.frame c.requires.kept c.requires.held)

pub invariant_of-self : goal.invariant_of-self
invariant_of-self g c =
    let t = g.N.BootName.table in
    let m = machine_of c.self.inside in
    let noted = notes_of_zone t m.run _ c.args.head _ c.number-frame.ensures (λ x. Freeze x 1) Missed
    (made_at _ _ c.args.tables.now.words_are 0 refl _ _ _ _ c.if-not-freeze.ensures) (c.take.ensures _ _ (search rules)) in
    let held = held_here t m _ c.self.view_is c.requires.held in
    record {
      consistent = (missed_all t m _ c.self.view_is c.self.invariant.consistent c.args.head c.requires.frame c.requires.kept c.requires.held _
          c.with_miss-self-inside.ensures _ noted).consistent;
      free = c.self.invariant.free;
      clean = c.self.invariant.clean;
      sums = sums_stay t m held (evict_steps c.args.head None) _ noted (same_books _ _ refl) _ c.self.invariant.sums;
      owners = owners_stay t m held (evict_steps c.args.head None) _ noted (same_books _ _ refl) _ c.self.invariant.owners;
    }

pub returns-then-not-freeze : goal.returns-then-not-freeze
returns-then-not-freeze g c =
    let t = g.N.BootName.table in
    let m = machine_of c.self.inside in
    let all = missed_all t m _ c.self.view_is c.self.invariant.consistent c.args.head c.requires.frame c.requires.kept c.requires.held _ c.with_miss-self-inside.ensures _
    (notes_of_zone t m.run _ c.args.head _ c.number-frame.ensures (λ x. Freeze x 1) Missed
    (made_at _ _ c.args.tables.now.words_are 0 refl _ _ _ _ c.if-not-freeze.ensures) (c.take.ensures _ _ (search rules))) in
    record { evicts = all.misses; visit = all.visit; steps = all.steps }

pub leave_list-requires-clause-counted : goal.leave_list-requires-clause-counted
leave_list-requires-clause-counted g c =
    let t = g.N.BootName.table in
    let m = machine_of c.self.inside in
    let head = read_head t m c.self.invariant.consistent c.args.head _ c.requires.frame c.number-frame.ensures _ c.in-Head.unit c.index.ensures c.in-Head.is in
    clean_there_here t m _ c.self.view_is c.self.invariant.consistent c.args.head _ c.requires.frame c.number-frame.ensures c.requires.kept c.in-Head.unit head _ c.self.invariant.clean

pub return_unit-requires : goal.return_unit-requires
return_unit-requires g c =
    let t = g.N.BootName.table in
    let m = machine_of c.self.inside in
    let head = read_head t m c.self.invariant.consistent c.args.head _ c.requires.frame c.number-frame.ensures _ c.in-Head.unit c.index.ensures c.in-Head.is in
    record {
      held = (made_at _ _ c.args.tables.now.words_are 0 refl _ _ _ _ c.if-not-freeze.ensures).held;
      legal = return_may t m.run.past _ c.args.head _ c.number-frame.ensures (Freeze c.args.head 1) Done (made_at _ _ c.args.tables.now.words_are 0 refl _ _ _ _ c.if-not-freeze.ensures)
          (evict_returns t m _ c.self.view_is c.self.invariant.consistent c.args.head _ c.requires.frame c.number-frame.ensures c.requires.kept c.requires.held c.in-Head.unit head);
      in_use = unit_in_use _ _ _ c.in-Head.unit c.self.invariant.free c.self.invariant.consistent.units head;
      inside = (c.self.invariant.consistent.units.heads _ c.in-Head.unit head).block.inside;
      charged = unit_charged t m c.self.invariant.consistent _ c.in-Head.unit head;
    }

pub invariant_of-self-2 : goal.invariant_of-self-2
invariant_of-self-2 g c =
    let t = g.N.BootName.table in
    let m = machine_of c.self.inside in
    let head = read_head t m c.self.invariant.consistent c.args.head _ c.requires.frame c.number-frame.ensures _ c.in-Head.unit c.index.ensures c.in-Head.is in
    let noted = notes_back t m.run _ c.args.head _ c.number-frame.ensures (λ x. Freeze x 1) Done
    (notes_of_zone t m.run _ c.args.head _ c.number-frame.ensures (λ x. Freeze x 1) Done
    (made_at _ _ c.args.tables.now.words_are 0 refl _ _ _ _ c.if-not-freeze.ensures) (c.take-2.ensures _ _ (search rules))) _ c.return_unit.ensures.notes in
    let all = evicted_all t m _ c.self.view_is c.self.invariant.consistent c.args.head _ c.requires.frame c.number-frame.ensures c.requires.kept c.requires.held _ _
    c.leave_list.ensures.leaves c.leave_list.ensures.lists c.leave_list.ensures.frames c.leave_list.ensures.groups c.in-Head.unit head _ _ _ _ _ _ _ _
    c.note_unit.ensures c.self.invariant.free c.return_unit.ensures.frame_states c.return_unit.ensures.frames c.return_unit.ensures.areas c.return_unit.ensures.charges
    c.return_unit.ensures.usage c.with_freeze-self-inside.ensures c.frames-pages.ensures.frames _ noted in
    let held = held_here t m _ c.self.view_is c.requires.held in
    record {
      consistent = all.consistent;
      free = all.free_is;
      clean = clean_after_free t _ all.consistent _ _ _ _ c.return_unit.ensures.frame_states (subst (AreCleanCounts _ _ _) (sym c.leave_list.ensures.clean)
          (clean_left_here t m _ c.self.view_is c.self.invariant.consistent c.args.head _ c.requires.frame c.number-frame.ensures c.requires.kept c.in-Head.unit head _
          c.self.invariant.clean _ _ c.leave_list.ensures.leaves));
      sums = sums_stay t m held (evict_steps c.args.head (Some 1)) _ noted (same_books _ _ refl) _ c.self.invariant.sums;
      owners = owners_stay t m held (evict_steps c.args.head (Some 1)) _ noted (same_books _ _ refl) _ c.self.invariant.owners;
    }

pub returns : goal.returns
returns g c =
    let t = g.N.BootName.table in
    let m = machine_of c.self.inside in
    let head = read_head t m c.self.invariant.consistent c.args.head _ c.requires.frame c.number-frame.ensures _ c.in-Head.unit c.index.ensures c.in-Head.is in
    let noted = notes_back t m.run _ c.args.head _ c.number-frame.ensures (λ x. Freeze x 1) Done
    (notes_of_zone t m.run _ c.args.head _ c.number-frame.ensures (λ x. Freeze x 1) Done
    (made_at _ _ c.args.tables.now.words_are 0 refl _ _ _ _ c.if-not-freeze.ensures) (c.take-2.ensures _ _ (search rules))) _ c.return_unit.ensures.notes in
    let all = evicted_all t m _ c.self.view_is c.self.invariant.consistent c.args.head _ c.requires.frame c.number-frame.ensures c.requires.kept c.requires.held _ _
    c.leave_list.ensures.leaves c.leave_list.ensures.lists c.leave_list.ensures.frames c.leave_list.ensures.groups c.in-Head.unit head _ _ _ _ _ _ _ _
    c.note_unit.ensures c.self.invariant.free c.return_unit.ensures.frame_states c.return_unit.ensures.frames c.return_unit.ensures.areas c.return_unit.ensures.charges
    c.return_unit.ensures.usage c.with_freeze-self-inside.ensures c.frames-pages.ensures.frames _ noted in
    record { evicts = all.evicts; visit = all.visit; steps = all.steps }

pub index-requires : goal.index-requires
index-requires g c = omega (arith, c.requires.frame, c.number-frame.ensures, c.self.invariant.consistent.sizes.frame_states)
