use Rattle.std.proofs.Common.{◌<◌, ◌≤◌, ◌∙◌, ap, length, rules}
use Rattle.mem_system.proofs.InTurns.{so_far_end, so_far_more, so_far_start}
use Rattle.mem_system.specs.Locked.{KnownLocked}
use Rattle.load_run.specs.Survey.{MeetsZone}
use Rattle.load_run.proofs.survey.meet_each.Goals as goal

pub loop-cpu-init : goal.loop-cpu-init
loop-cpu-init g c = (so_far_start (MeetsZone g.N.BootName.table) _ _, search rules)

pub loop-cpu-preserved : goal.loop-cpu-preserved
loop-cpu-preserved g c =
    let inside : c.loop-cpu.cpu-index < length c.loop-cpu.cpus = search rules in
    let met = c.meet.ensures in (
      so_far_more (MeetsZone g.N.BootName.table) _ _ _ _ _ _ c.cpu-item.result _ c.loop-cpu.invariant.0 inside
          (record { machine = ap (λ (l : KnownLocked). l.machine) met.locked; part = met.part; last = met.last; meets = met.meets }),
      ap (λ (l : KnownLocked). l.sizes) met.locked ∙ c.loop-cpu.invariant.1,
    )

pub returns-clause-meets : goal.returns-clause-meets
returns-clause-meets g c =
    let past : length c.loop-cpu.cpus ≤ c.loop-cpu.cpu-index = search rules in
    so_far_end (MeetsZone g.N.BootName.table) _ _ _ _ _ c.loop-cpu.invariant.0 past
