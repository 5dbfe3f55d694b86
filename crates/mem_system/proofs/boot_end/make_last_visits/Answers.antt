use Rattle.std.proofs.Common.{◌≡◌, ◌∙◌, ℕ, List, length, All, ap, sym, subst, arith}
use Rattle.std.specs.Prelude.{min}
use Rattle.std.specs.Vec.{vec_capacity}
use Rattle.group_tree.specs.Room.{max_count}
use Rattle.mem_system.specs.{CpuInRun, parts_of, IsEmptyWithRoom, KnownLocked, NothingIsLeft, ForEachCpu, SettlesInVisit, VisitsUnderLock, Empties}
use Rattle.mem_system.specs.{IsSettledUnpinned, KnownEmptiedBoot, MakesLastVisits, drops_of, pins_of_all}
use Rattle.mem_system.proofs.Closing.{turn_long, written_back, all_visits}
use Rattle.mem_system.proofs.boot_end.make_last_visits.Goals as goal

pub empty_all-requires-clause-settled : goal.empty_all-requires-clause-settled
empty_all-requires-clause-settled g c =
    let t = g.N.BootName.table in
    let first = c.deref_mut.ensures.value in
    let long = turn_long (VisitsUnderLock t SettlesInVisit) _ _ _ _ c.settle_all.ensures.settles ∙ ap length first in
    let same = c.deref_mut-2.ensures.value ∙ written_back c.args.cpus.len c.settle_all.new.cpus c.args.cpus.items long
    (sym c.deref_mut.ensures.len ∙ ap length first) in
    subst (λ (l : List CpuInRun). All IsSettledUnpinned (parts_of l)) (sym same) c.settle_all.ensures.settled

pub returns-clause-visits : goal.returns-clause-visits
returns-clause-visits g c =
    let t = g.N.BootName.table in
    let first = c.deref_mut.ensures.value in
    let second = c.deref_mut-2.ensures.value in
    let size = sym c.deref_mut.ensures.len ∙ ap length first in
    let long = turn_long (VisitsUnderLock t SettlesInVisit) _ _ _ _ c.settle_all.ensures.settles ∙ ap length first in
    let same = written_back c.args.cpus.len c.settle_all.new.cpus c.args.cpus.items long size in
    let longer = turn_long (VisitsUnderLock t Empties) _ _ _ _ c.empty_all.ensures.empties ∙ ap length second in
    let last = written_back c.args.cpus.len c.empty_all.new.cpus _ longer (size ∙ sym (ap length same ∙ long)) in
    let read : c.deref.result.now ≡ c.args.cpus.items = c.deref.ensures.value in
    let none : pins_of_all (parts_of c.args.cpus.items) ≡ 0 =
    let counted = c.count_pins-pins.ensures in let zero = c.if-pins-gt0.false in sym (ap (λ (l : List CpuInRun). pins_of_all (parts_of l)) read) ∙ sym counted ∙ omega (arith, zero) in
    let dropped = c.count_drops-drops.ensures ∙ ap (λ (l : List CpuInRun). min (drops_of (parts_of l)) max_count) c.deref-2.ensures.value in
    let rests : ForEachCpu (VisitsUnderLock t SettlesInVisit) c.locked.inside.machine c.args.cpus.items c.settle_all.new.machine c.settle_all.new.cpus =
    subst (λ (l : List CpuInRun). ForEachCpu (VisitsUnderLock t SettlesInVisit) c.locked.inside.machine l c.settle_all.new.machine c.settle_all.new.cpus) first c.settle_all.ensures.settles in
    let empties : ForEachCpu (VisitsUnderLock t Empties) c.settle_all.new.machine c.settle_all.new.cpus c.empty_all.new.machine c.empty_all.new.cpus =
    subst (λ (l : List CpuInRun). ForEachCpu (VisitsUnderLock t Empties) c.settle_all.new.machine l c.empty_all.new.machine c.empty_all.new.cpus) (second ∙ same)
    c.empty_all.ensures.empties in
    let emptied : List CpuInRun → KnownEmptiedBoot = λ (l : List CpuInRun). record {
      machine = c.empty_all.new.machine;
      cpus = l;
      drops = c.count_drops-drops.result;
    } in
    subst (λ (z : KnownLocked × List CpuInRun). MakesLastVisits t z.0 c.args.cpus.items (emptied z.1)) (λ i. (c.locked.view_is i, sym last i))
    (all_visits t (record { machine = c.locked.inside.machine; sizes = c.locked.inside.sizes }) c.args.cpus.items c.settle_all.new.machine c.settle_all.new.cpus
    (emptied c.empty_all.new.cpus) c.locked.invariant.quiet none dropped rests empties)

pub invariant_of-result : goal.invariant_of-result
invariant_of-result g c =
    let t = g.N.BootName.table in
    let first = c.deref_mut.ensures.value in
    let second = c.deref_mut-2.ensures.value in
    let size = sym c.deref_mut.ensures.len ∙ ap length first in
    let long = turn_long (VisitsUnderLock t SettlesInVisit) _ _ _ _ c.settle_all.ensures.settles ∙ ap length first in
    let same = written_back c.args.cpus.len c.settle_all.new.cpus c.args.cpus.items long size in
    let longer = turn_long (VisitsUnderLock t Empties) _ _ _ _ c.empty_all.ensures.empties ∙ ap length second in
    let last = written_back c.args.cpus.len c.empty_all.new.cpus _ longer (size ∙ sym (ap length same ∙ long)) in (
      subst (λ (l : List CpuInRun). NothingIsLeft t (record { machine = c.empty_all.new.machine; cpus = l; drops = c.count_drops-drops.result })) (sym last)
          (record { rests = c.empty_all.ensures.rests; all_emptied = c.empty_all.ensures.emptied; count = longer ∙ ap length same ∙ long ∙ c.requires }),
      subst (λ (k : ℕ). IsEmptyWithRoom k (length c.locked.inside.seats.items) (vec_capacity c.locked.inside.seats)) (sym c.locked.invariant.quiet.sized.cpus)
          c.locked.invariant.seats,
    )
