use Rattle.mem_reclaim.proofs.Rounding.{amount_noted}
use Rattle.mem_reclaim.proofs.Grown.{held_noted}
use Rattle.mem_reclaim.proofs.amounts.reclaim_amount.Goals as goal

pub make_reclaim_rounds-requires-clause-held : goal.make_reclaim_rounds-requires-clause-held
make_reclaim_rounds-requires-clause-held g c = held_noted g.N.BootName.table c.args.machine.now c.note.new.self _ c.note.ensures c.requires.held

pub returns : goal.returns
returns g c =
    let e = c.make_reclaim_rounds.ensures in
    let h = amount_noted g.N.BootName.table c.args.group c.args.asked c.make_reclaim_rounds.result c.args.machine.now c.note.new.self
    c.make_reclaim_rounds.new.machine c.note.ensures e.rounds e.missed e.usage e.keeps in
    record { rounds = h.rounds; missed = h.missed; usage = h.usage; keeps = h.keeps }
