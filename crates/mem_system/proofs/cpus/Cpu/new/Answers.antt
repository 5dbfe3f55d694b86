use Rattle.std.proofs.Common.{◌∙◌, ap}
use Rattle.cpu_part.specs.Cpus.{first_cpu}
use Rattle.mem_system.proofs.Parts.{knows_first}
use Rattle.mem_system.proofs.cpus.Cpu.new.Goals as goal

pub invariant_of-result : goal.invariant_of-result
invariant_of-result g c =
    knows_first g.N.BootName.table c.args.seat c.in_ok-part.part c.requires.seat c.requires.away (c.in_ok-part.ensures ∙ ap first_cpu c.number.ensures)
