use Rattle.std.proofs.Common.{◌<◌, ◌≤◌, length, arith, rules, subst, sym}
use Rattle.std.proofs.lemmas.List.Elements.{All-map, All-weaker}
use Rattle.std.specs.Prelude.{take}
use Rattle.mem_system.specs.{CpuInRun, Empties, VisitsUnderLock, IsSettledUnpinned, IsEmptied}
use Rattle.mem_system.proofs.InTurns.{so_far_more, so_far_end, same_at, all_more, all_taken, emptied_still, parts_all}
use Rattle.mem_system.proofs.last_visits.empty_all.Goals as goal

pub empty_under_lock-requires-clause-settled : goal.empty_under_lock-requires-clause-settled
empty_under_lock-requires-clause-settled g c =
    let inside : c.loop-cpu.cpu-index < length c.loop-cpu.cpus = search rules in
    let so_far = c.loop-cpu.invariant.0 in
    let long = so_far.long in
    subst (λ (x : CpuInRun). IsSettledUnpinned x.part) (sym (same_at _ _ _ c.cpu-item.result inside long so_far.left))
    (parts_all IsSettledUnpinned _ c.requires.settled c.loop-cpu.cpu-index c.cpu-item.result (omega (arith, inside, long)))

pub loop-cpu-preserved : goal.loop-cpu-preserved
loop-cpu-preserved g c =
    let inside : c.loop-cpu.cpu-index < length c.loop-cpu.cpus = search rules in
    let done = c.empty_under_lock.ensures in
    let t = g.N.BootName.table in (
      so_far_more (VisitsUnderLock t Empties) _ _ _ _ _ _ c.cpu-item.result _ c.loop-cpu.invariant.0 inside done.empties,
      all_more (λ cpu. IsEmptied t c.empty_under_lock.new.machine cpu.part) c.loop-cpu.cpus c.loop-cpu.cpu-index c.empty_under_lock.new.cpu inside
          (All-weaker (λ cpu. IsEmptied t c.loop-cpu.machine cpu.part) (λ cpu. IsEmptied t c.empty_under_lock.new.machine cpu.part)
          (λ cpu. emptied_still t c.loop-cpu.machine c.empty_under_lock.new.machine done.others cpu.part) (take c.loop-cpu.cpu-index c.loop-cpu.cpus) c.loop-cpu.invariant.1) done.emptied,
      done.rests,
    )

pub returns-clause-empties : goal.returns-clause-empties
returns-clause-empties g c =
    let past : length c.loop-cpu.cpus ≤ c.loop-cpu.cpu-index = search rules in
    so_far_end (VisitsUnderLock g.N.BootName.table Empties) _ _ _ _ _ c.loop-cpu.invariant.0 past

pub returns-clause-emptied : goal.returns-clause-emptied
returns-clause-emptied g c =
    let past : length c.loop-cpu.cpus ≤ c.loop-cpu.cpu-index = search rules in
    All-map (IsEmptied g.N.BootName.table c.loop-cpu.machine) (λ (cpu : CpuInRun). cpu.part) c.loop-cpu.cpus
    (all_taken (λ cpu. IsEmptied g.N.BootName.table c.loop-cpu.machine cpu.part) c.loop-cpu.cpus c.loop-cpu.cpu-index past
    c.loop-cpu.invariant.1)
