use Rattle.std.proofs.Common.{length, rules, arith}
use Rattle.std.proofs.lemmas.Grind.{common_steps}
use Rattle.mem_system.proofs.InTurns.{sum_parts}
use Rattle.mem_system.proofs.boot_end.count_pins.Goals as goal

pub loop-cpu-init : goal.loop-cpu-init
loop-cpu-init g c = search rules

pub loop-cpu-preserved : goal.loop-cpu-preserved
loop-cpu-preserved g c = grind (arith, common_steps)

pub returns : goal.returns
returns g c =
    let all = sum_parts (λ cpu. length cpu.pins) c.args.cpus.now in grind (arith, all, common_steps)
