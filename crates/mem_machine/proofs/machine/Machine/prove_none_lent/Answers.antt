use Rattle.mem_machine.proofs.NoneLent.{none_lent}
use Rattle.mem_machine.proofs.machine.Machine.prove_none_lent.Goals as goal

pub returns : goal.returns
returns g c =
    none_lent g.N.BootName.table c.args.self.now c.args.cpu.now c.prove_consistent.ensures c.requires.holds c.requires.none_listed c.requires.none_fresh
