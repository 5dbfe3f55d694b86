use Rattle.std.proofs.Common.{arith}
use Rattle.std.proofs.lemmas.Grind.{common_steps}
use Rattle.mem_system.proofs.InTurns.{sum_parts}
use Rattle.mem_system.proofs.boot_end.count_drops.Goals as goal

pub loop-cpu-preserved : goal.loop-cpu-preserved
loop-cpu-preserved g c = grind (arith, common_steps)

pub returns : goal.returns
returns g c =
    let all = sum_parts (λ cpu. cpu.drops) c.args.cpus.now in grind (arith, all, common_steps)
