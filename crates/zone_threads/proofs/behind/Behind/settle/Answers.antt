use Rattle.mem_system.specs.{SettlesCaller}
use Rattle.zone_threads.proofs.Visited.{serves_behind}
use Rattle.zone_threads.proofs.behind.Behind.settle.Goals as goal

pub returns : goal.returns
returns g c =
    serves_behind g.N.BootName.table (SettlesCaller g.N.BootName.table) _ _ _ _ _ c.self.view_is
    (record { quiet = c.prove_quiet.ensures.quiet; consistent = c.prove_quiet.ensures.consistent; charges = c.prove_quiet.ensures.charges })
    c.serve_settle.ensures.served
    (record { quiet = c.prove_quiet-2.ensures.quiet; consistent = c.prove_quiet-2.ensures.consistent; charges = c.prove_quiet-2.ensures.charges })
