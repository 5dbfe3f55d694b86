use Rattle.std.proofs.lemmas.List.Elements.{All-pop}
use Rattle.cpu_part.specs.Cpus.{IsIdle}
use Rattle.mem_system.specs.Cpus.{CpuInRun}
use Rattle.mem_system.proofs.InTurns.{parts_all}
use Rattle.mem_system.proofs.boots.take_apart.Goals as goal

pub loop-cpu-init : goal.loop-cpu-init
loop-cpu-init g c = parts_all IsIdle c.args.cpus.items c.requires

pub loop-cpu-preserved : goal.loop-cpu-preserved
loop-cpu-preserved g c = (All-pop (λ (cpu : CpuInRun). IsIdle cpu.part) _ _ _ c.pop.ensures.items c.loop-cpu.invariant).0
