use Rattle.std.proofs.Common.{refl, rules}
use Rattle.zone_threads.specs.Calling.{ReadsPages}
use Rattle.zone_threads.proofs.Reading.{answers_pages}
use Rattle.zone_threads.proofs.Visited.{under_lock}
use Rattle.zone_threads.proofs.home.Home.read_pages.Goals as goal

pub returns : goal.returns
returns g c =
    answers_pages g.N.BootName.table c.args.group c.args.which c.args.self.now _ c.read_pages-answer.result
    (under_lock (ReadsPages g.N.BootName.table c.args.group c.args.which c.read_pages-answer.result) c.args.self.now _ c.in-Some.cpu c.read_pages-answer.new.cpu c.deref-zone.result.now.sizes
    c.put_back.result _ c.in-Some-take.behind c.deref_mut.result.now c.read_pages-answer.new.self (search rules) refl (search rules) refl (search rules)
    c.in-Some-take.ensures.found c.put_back.ensures.found c.put_back.ensures.left c.deref_mut.ensures.value c.read_pages-answer.ensures)
