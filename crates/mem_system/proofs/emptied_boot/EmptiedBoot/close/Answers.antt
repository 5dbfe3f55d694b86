use Rattle.std.proofs.Common.{◌∙◌, List, length, sym, ap, subst}
use Rattle.std.proofs.lemmas.List.{length-map}
use Rattle.std.proofs.lemmas.List.Elements.{All-weaker}
use Rattle.boot_words.specs.{HasCpuPast, KnownCpuSeat, AllOf}
use Rattle.cpu_part.specs.Cpus.{IsIdle}
use Rattle.mem_system.specs.{parts_of, seat_of, Closes, IsClosed, IsEmptied, KnownEmptiedBoot}
use Rattle.mem_system.proofs.Closing.{all_closes}
use Rattle.mem_system.proofs.Gathering.{closed_run, have_pasts}
use Rattle.mem_system.proofs.emptied_boot.EmptiedBoot.close.Goals as goal

pub gather_seats-seats-requires-clause-idle : goal.gather_seats-seats-requires-clause-idle
gather_seats-seats-requires-clause-idle g c =
    All-weaker (IsEmptied g.N.BootName.table c.self.inside.machine) IsIdle (λ cpu emptied. emptied.idle) (parts_of c.self.inside.cpus.items) c.self.invariant.0.all_emptied

pub close_table-requires-clause-seats : goal.close_table-requires-clause-seats
close_table-requires-clause-seats g c =
    let t = g.N.BootName.table in
    subst (AllOf (HasCpuPast t)) (sym c.gather_seats-seats.ensures.seats) (have_pasts t c.self.inside.cpus.items c.gather_seats-seats.ensures.knows)

pub close_table-requires-clause-count : goal.close_table-requires-clause-count
close_table-requires-clause-count g c =
    ap length c.gather_seats-seats.ensures.seats ∙ length-map c.self.inside.cpus.items seat_of ∙ c.self.invariant.0.count

pub returns : goal.returns
returns g c =
    let t = g.N.BootName.table in
    let m = c.self.inside.machine in
    let cpus = c.self.inside.cpus.items in
    let gathered = c.gather_seats-seats.ensures in
    let closed = subst (λ (l : List KnownCpuSeat). IsClosed t m l c.close_table.result) gathered.seats c.close_table.ensures in
    subst (λ (k : KnownEmptiedBoot). Closes t k c.take_audit-audit.result) c.self.view_is
    (all_closes t (record { machine = m; cpus = cpus; drops = c.self.inside.drops }) c.take_audit-audit.result c.close_table.result
    c.self.invariant.0 gathered.knows closed.consistent (closed_run t m cpus c.close_table.result c.self.invariant.0.rests gathered.knows closed) c.take_audit-audit.ensures)
