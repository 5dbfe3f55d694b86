use Rattle.std.proofs.Common.{◌<◌, ◌≤◌, length, rules}
use Rattle.std.proofs.lemmas.List.Elements.{All-map}
use Rattle.mem_system.specs.{CpuInRun, SettlesInVisit, VisitsUnderLock, IsSettledUnpinned}
use Rattle.mem_system.proofs.InTurns.{so_far_more, so_far_end, no_pin_at, all_more, all_taken}
use Rattle.mem_system.proofs.last_visits.settle_all.Goals as goal

pub settle_under_lock-requires-clause-no_pin : goal.settle_under_lock-requires-clause-no_pin
settle_under_lock-requires-clause-no_pin g c =
    let inside : c.loop-cpu.cpu-index < length c.loop-cpu.cpus = search rules in
    let so_far = c.loop-cpu.invariant.0 in
    no_pin_at _ _ _ _ inside so_far.long so_far.left c.requires.no_pin

pub loop-cpu-preserved : goal.loop-cpu-preserved
loop-cpu-preserved g c =
    let inside : c.loop-cpu.cpu-index < length c.loop-cpu.cpus = search rules in
    let done = c.settle_under_lock.ensures in (
      so_far_more (VisitsUnderLock g.N.BootName.table SettlesInVisit) _ _ _ _ _ _ c.cpu-item.result _ c.loop-cpu.invariant.0 inside done.settles,
      all_more (λ cpu. IsSettledUnpinned cpu.part) c.loop-cpu.cpus c.loop-cpu.cpu-index c.settle_under_lock.new.cpu inside c.loop-cpu.invariant.1 done.settled,
      done.rests,
    )

pub returns-clause-settles : goal.returns-clause-settles
returns-clause-settles g c =
    let past : length c.loop-cpu.cpus ≤ c.loop-cpu.cpu-index = search rules in
    so_far_end (VisitsUnderLock g.N.BootName.table SettlesInVisit) _ _ _ _ _ c.loop-cpu.invariant.0 past

pub returns-clause-settled : goal.returns-clause-settled
returns-clause-settled g c =
    let past : length c.loop-cpu.cpus ≤ c.loop-cpu.cpu-index = search rules in
    All-map IsSettledUnpinned (λ (cpu : CpuInRun). cpu.part) c.loop-cpu.cpus (all_taken (λ cpu. IsSettledUnpinned cpu.part) c.loop-cpu.cpus c.loop-cpu.cpu-index past c.loop-cpu.invariant.1)
