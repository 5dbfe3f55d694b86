use Rattle.mem_system.proofs.Putting.{pin_in_table}
use Rattle.mem_system.proofs.cpus.Cpu.first_pin.Goals as goal

pub returns-clause-frame : goal.returns-clause-frame
returns-clause-frame g c =
    pin_in_table g.N.BootName.table _ _ c.self.invariant _ c.first_pin.ensures
