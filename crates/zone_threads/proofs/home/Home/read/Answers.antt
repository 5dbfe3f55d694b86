use Rattle.std.proofs.Common.{refl, rules}
use Rattle.zone_threads.specs.{ReadsBehind}
use Rattle.zone_threads.proofs.Reading.{answers_read}
use Rattle.zone_threads.proofs.Visited.{under_lock}
use Rattle.zone_threads.proofs.home.Home.read.Goals as goal

pub returns : goal.returns
returns g c =
    answers_read g.N.BootName.table c.args.asked.now c.args.self.now _ c.read-answer.result
    (under_lock (ReadsBehind g.N.BootName.table c.args.asked.now c.read-answer.result) c.args.self.now _ c.in-Some.cpu c.read-answer.new.cpu c.deref-zone.result.now.sizes
    c.put_back.result _ c.in-Some-take.behind c.deref_mut.result.now c.read-answer.new.self (search rules) refl (search rules) refl (search rules)
    c.in-Some-take.ensures.found c.put_back.ensures.found c.put_back.ensures.left c.deref_mut.ensures.value c.read-answer.ensures)
