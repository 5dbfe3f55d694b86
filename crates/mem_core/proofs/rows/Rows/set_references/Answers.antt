-- The goals of `set_references`.
use Rattle.std.proofs.Common.{◌<◌, length, sym, subst, arith}
use Rattle.mem_core.specs.declared.seat.SeatRow.{SeatRow}
use Rattle.mem_core.specs.Rooms.{SeatHasRoom}
use Rattle.mem_core.proofs.Referring.{references_change}
use Rattle.mem_core.proofs.rows.Rows.set_references.Goals as goal

pub returns-clause-state : goal.returns-clause-state
returns-clause-state c =
    let r = c.args.self.now in
    let old : SeatRow = c.index_mut.result.now in
    let below : c.args.seat < length r.seats.items = omega (arith, r.seats.ok.0, c.requires.fits.seats, c.requires.seat) in
    let room : SeatHasRoom r.frames old = subst (SeatHasRoom r.frames) (sym c.index_mut.ensures.value) (c.requires.fits.rooms c.args.seat old below) in
    let there : c.args.frame < length old.references = let e = room.references in omega (arith, e, c.requires.there) in
    references_change r c.args.seat old c.set_references.new.seat c.args.frame c.args.count below c.index_mut.ensures.value
    c.set_references.ensures.part there c.set_references.ensures.references
