use Rattle.std.proofs.Common.{refl, rules}
use Rattle.mem_system.specs.{ServesText}
use Rattle.zone_threads.specs.{ServesBehind}
use Rattle.zone_threads.proofs.Visited.{under_lock}
use Rattle.zone_threads.proofs.home.Home.serve.Goals as goal

pub returns-clause-served : goal.returns-clause-served
returns-clause-served g c =
    under_lock (ServesBehind g.N.BootName.table (ServesText g.N.BootName.table c.args.command.now c.serve-outcome.result)) c.args.self.now _ c.in-Some.cpu c.serve-outcome.new.cpu c.deref-zone.result.now.sizes
    c.put_back.result _ c.in_ok-behind.behind c.deref_mut.result.now c.serve-outcome.new.self (search rules) refl (search rules) refl (search rules)
    c.in_ok-behind.ensures.found c.put_back.ensures.found c.put_back.ensures.left c.deref_mut.ensures.value c.serve-outcome.ensures
