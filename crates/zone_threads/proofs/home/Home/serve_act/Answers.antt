use Rattle.std.proofs.Common.{refl, rules}
use Rattle.zone_threads.specs.Calling.{ServesAct}
use Rattle.zone_threads.specs.{ServesBehind}
use Rattle.zone_threads.proofs.Visited.{under_lock}
use Rattle.zone_threads.proofs.home.Home.serve_act.Goals as goal

pub returns : goal.returns
returns g c =
    under_lock (ServesBehind g.N.BootName.table (ServesAct g.N.BootName.table c.args.group c.args.act c.in-Some-served.outcome)) c.args.self.now _ c.in-Some.cpu c.serve_act-served.new.cpu c.deref-zone.result.now.sizes
    c.put_back.result _ c.in-Some-take.behind c.deref_mut.result.now c.serve_act-served.new.self (search rules) refl (search rules) refl (search rules)
    c.in-Some-take.ensures.found c.put_back.ensures.found c.put_back.ensures.left c.deref_mut.ensures.value c.in-Some-served.ensures.served
