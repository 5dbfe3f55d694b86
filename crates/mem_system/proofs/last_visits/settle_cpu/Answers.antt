use Rattle.mem_system.proofs.Turns.{rested}
use Rattle.mem_system.proofs.last_visits.settle_cpu.Goals as goal

pub returns-clause-settles : goal.returns-clause-settles
returns-clause-settles g c =
    rested g.N.BootName.table c.args.machine.now c.shut.new.self c.args.cpu.now c.settle.new.cpu c.open.new.self c.settle.new.self
    c.requires.holds.held c.open.ensures.machine c.settle.ensures.others.number c.shut.ensures.machine c.open.ensures.steps
    c.settle.ensures.settles c.settle.ensures.steps c.shut.ensures.steps
