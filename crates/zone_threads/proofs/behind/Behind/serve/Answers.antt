use Rattle.mem_system.specs.{ServesText}
use Rattle.zone_threads.proofs.Visited.{serves_behind}
use Rattle.zone_threads.proofs.behind.Behind.serve.Goals as goal

pub returns : goal.returns
returns g c =
    serves_behind g.N.BootName.table (ServesText g.N.BootName.table c.args.command.now c.serve_text-outcome.result) _ _ _ _ _ c.self.view_is
    (record { quiet = c.prove_quiet.ensures.quiet; consistent = c.prove_quiet.ensures.consistent; charges = c.prove_quiet.ensures.charges })
    c.serve_text-outcome.ensures.served
    (record { quiet = c.prove_quiet-2.ensures.quiet; consistent = c.prove_quiet-2.ensures.consistent; charges = c.prove_quiet-2.ensures.charges })
