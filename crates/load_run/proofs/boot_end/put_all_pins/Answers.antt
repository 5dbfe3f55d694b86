use Rattle.std.proofs.Common.{◌<◌, ◌≤◌, length, rules}
use Rattle.mem_system.proofs.InTurns.{so_far_end, so_far_more, so_far_start}
use Rattle.load_run.specs.Ending.{PutsAllPins}
use Rattle.load_run.proofs.boot_end.put_all_pins.Goals as goal

pub loop-cpu-init : goal.loop-cpu-init
loop-cpu-init g c = (so_far_start PutsAllPins _ _, search rules)

pub loop-cpu-preserved : goal.loop-cpu-preserved
loop-cpu-preserved g c =
    let inside : c.loop-cpu.cpu-index < length c.loop-cpu.cpus = search rules in
    (so_far_more PutsAllPins _ _ _ _ _ _ c.cpu-item.result _ c.loop-cpu.invariant.0 inside c.put_pins.ensures.puts, search rules)

pub returns-clause-puts : goal.returns-clause-puts
returns-clause-puts g c =
    let past : length c.loop-cpu.cpus ≤ c.loop-cpu.cpu-index = search rules in
    so_far_end PutsAllPins _ _ _ _ _ c.loop-cpu.invariant.0 past
