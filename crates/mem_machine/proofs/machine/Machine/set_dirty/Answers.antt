use Rattle.std.proofs.Common.{◌∙◌, subst, sym, arith}
use Rattle.mem_machine.specs.{AreCleanCounts}
use Rattle.mem_machine.proofs.Clean.{clean_marked_here, clean_room, clean_there_here, listed_group}
use Rattle.mem_machine.proofs.Dirties.{dirty_all, has_home}
use Rattle.mem_machine.proofs.Releases.{read_head}
use Rattle.mem_machine.proofs.machine.Machine.set_dirty.Goals as goal

pub unreachable-requires : goal.unreachable-requires
unreachable-requires g c = has_home _ _ c.self.view_is c.args.head _ c.number-at.ensures c.requires.kept c.in_default.ensures

pub count_dirt-requires-clause-few : goal.count_dirt-requires-clause-few
count_dirt-requires-clause-few g c =
    let head = read_head g.N.BootName.table _ c.self.invariant.consistent c.args.head _ c.requires.frame c.number-at.ensures _ c.in-Head.unit c.index.ensures c.in-Head.is in
    let few = clean_room g.N.BootName.table _ c.self.invariant.consistent _ c.self.invariant.clean c.in-Head.unit.group in
    omega (arith, few, c.frames-frames.ensures)

pub count_dirt-requires-clause-count : goal.count_dirt-requires-clause-count
count_dirt-requires-clause-count g c =
    let head = read_head g.N.BootName.table _ c.self.invariant.consistent c.args.head _ c.requires.frame c.number-at.ensures _ c.in-Head.unit c.index.ensures c.in-Head.is in
    let low = listed_group g.N.BootName.table _ _ c.self.view_is c.self.invariant.consistent c.args.head _ c.requires.frame c.number-at.ensures c.requires.kept c.in-Head.unit head in
    let sized = c.self.invariant.clean.size in
    omega (arith, low, sized)

pub count_dirt-requires-clause-counted : goal.count_dirt-requires-clause-counted
count_dirt-requires-clause-counted g c = λ clean.
    let head = read_head g.N.BootName.table _ c.self.invariant.consistent c.args.head _ c.requires.frame c.number-at.ensures _ c.in-Head.unit c.index.ensures c.in-Head.is in
    clean_there_here g.N.BootName.table _ _ c.self.view_is c.self.invariant.consistent c.args.head _ c.requires.frame c.number-at.ensures c.requires.kept c.in-Head.unit head _
    c.self.invariant.clean (sym c.is_dirty-was_dirty.ensures ∙ clean)

pub invariant_of-self : goal.invariant_of-self
invariant_of-self g c = record {
  consistent = (dirty_all g.N.BootName.table _ _ c.self.view_is c.self.invariant.consistent c.args.head _ c.requires.frame c.number-at.ensures c.in-Some.home
      c.in-Some.ensures _ c.index-2.ensures _ c.args.is_dirty c.set_dirty.ensures.linked c.set_dirty.ensures.entries c.set_dirty.ensures.others
      c.others_stay_linked.ensures
      c.one_of_all_changes.ensures).consistent;
  free = c.self.invariant.free;
  clean = subst (AreCleanCounts _ _ _) (sym c.count_dirt.ensures)
      (clean_marked_here g.N.BootName.table _ _ c.self.view_is c.self.invariant.consistent c.args.head _ c.requires.frame c.number-at.ensures c.requires.kept c.in-Head.unit
      (read_head g.N.BootName.table _ c.self.invariant.consistent c.args.head _ c.requires.frame c.number-at.ensures _ c.in-Head.unit c.index.ensures c.in-Head.is)
      _ c.self.invariant.clean _ c.set_dirty.ensures.used c.set_dirty.ensures.home _ _ c.is_dirty-was_dirty.ensures c.set_dirty.ensures.dirt);
  sums = c.self.invariant.sums;
  owners = c.self.invariant.owners;
}

pub returns : goal.returns
returns g c =
    let all = dirty_all g.N.BootName.table _ _ c.self.view_is c.self.invariant.consistent c.args.head _ c.requires.frame c.number-at.ensures
    c.in-Some.home
    c.in-Some.ensures _ c.index-2.ensures _ c.args.is_dirty c.set_dirty.ensures.linked c.set_dirty.ensures.entries c.set_dirty.ensures.others
    c.others_stay_linked.ensures
    c.one_of_all_changes.ensures in
    record { dirties = all.dirties; steps = all.steps }
