use Rattle.std.proofs.Common.{refl, rules}
use Rattle.zone_threads.specs.Shown.{SaysText, SettlesAndSays}
use Rattle.zone_threads.specs.{ServesBehind}
use Rattle.zone_threads.proofs.Visited.{under_lock}
use Rattle.zone_threads.proofs.home.Home.text.Goals as goal

pub returns-clause-shown : goal.returns-clause-shown
returns-clause-shown g c =
    under_lock (ServesBehind g.N.BootName.table (SettlesAndSays g.N.BootName.table (SaysText g.N.BootName.table c.args.asked c.text-answer.result))) c.args.self.now _ c.in-Some.cpu c.text-answer.new.cpu c.deref-zone.result.now.sizes
    c.put_back.result _ c.in_ok-behind.behind c.deref_mut.result.now c.text-answer.new.self (search rules) refl (search rules) refl (search rules)
    c.in_ok-behind.ensures.found c.put_back.ensures.found c.put_back.ensures.left c.deref_mut.ensures.value c.text-answer.ensures
