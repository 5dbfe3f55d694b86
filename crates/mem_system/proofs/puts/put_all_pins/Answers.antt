use Rattle.std.proofs.Common.{◌<◌, ◌≤◌, length, refl, rules}
use Rattle.mem_system.proofs.Putting.{each_more, each_none, none_at_end, none_more}
use Rattle.mem_system.proofs.puts.put_all_pins.Goals as goal

pub loop-cpu-init : goal.loop-cpu-init
loop-cpu-init g c = (refl, each_none _)

pub loop-cpu-preserved : goal.loop-cpu-preserved
loop-cpu-preserved g c =
    let inside : c.loop-cpu.cpu-index < length c.loop-cpu.cpus = search rules in
    (none_more _ _ _ c.loop-cpu.invariant.0 inside c.put_all.ensures.none, each_more _ _ _ _ _ inside c.loop-cpu.invariant.1 c.put_all.ensures.puts)

pub returns-clause-none : goal.returns-clause-none
returns-clause-none g c =
    let past : length c.loop-cpu.cpus ≤ c.loop-cpu.cpu-index = search rules in none_at_end _ _ c.loop-cpu.invariant.0 past
