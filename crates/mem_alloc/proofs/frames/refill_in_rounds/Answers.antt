use Rattle.std.proofs.Common.{sym, ap, ◌∙◌, subst}
use Rattle.group_charge.specs.declared.note.Note.TheVariants.{Zone}
use Rattle.mem_machine.specs.{KnownMachine, Visits, visit_state, stock_now}
use Rattle.mem_alloc.specs.Frames.{MakesRefillRounds}
use Rattle.mem_alloc.proofs.Rounding.{noted_visit, zone_noted}
use Rattle.mem_alloc.proofs.frames.refill_in_rounds.Goals as goal

pub make_refill_rounds-requires-clause-visit : goal.make_refill_rounds-requires-clause-visit
make_refill_rounds-requires-clause-visit g c =
    subst (λ (x : KnownMachine). Visits g.N.BootName.table x c.args.cpu.now) (sym c.note.ensures)
    (noted_visit g.N.BootName.table c.args.machine.now c.args.cpu.now (Zone 0) c.requires.visit)

pub returns-clause-refills : goal.returns-clause-refills
returns-clause-refills g c =
    zone_noted g.N.BootName.table 0 (MakesRefillRounds c.args.batch c.make_refill_rounds.result) c.args.machine.now c.note.new.self c.args.cpu.now
    (visit_state c.make_refill_rounds.new.machine c.make_refill_rounds.new.cpu) c.note.ensures c.make_refill_rounds.ensures.refills

pub returns-clause-stock : goal.returns-clause-stock
returns-clause-stock g c =
    c.make_refill_rounds.ensures.stock
    ∙ ap (λ (m : KnownMachine). stock_now g.N.BootName.table m c.args.cpu.now.number) c.note.ensures
