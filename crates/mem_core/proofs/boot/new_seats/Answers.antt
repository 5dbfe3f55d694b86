-- One more seat is as each before it.
use Rattle.std.proofs.Common.{arith, ◌∙◌, sym, subst}
use Rattle.std.specs.Prelude.{All}
use Rattle.std.proofs.lemmas.List.Elements.{All-push}
use Rattle.mem_core.specs.Rooms.{SeatHasRoom, IsNewSeat}
use Rattle.mem_core.proofs.boot.new_seats.Goals as goal

pub loop-cpu-preserved : goal.loop-cpu-preserved
loop-cpu-preserved c =
    let h = c.loop-cpu.invariant in
    let seats = c.loop-cpu.seats.items in
    let pushed = sym c.push_reserved.ensures.items in
    record {
      size = let a = c.push_reserved.ensures.len in let b = h.size in omega arith;
      room = c.push_reserved.ensures.capacity ∙ h.room;
      rooms = subst (All (SeatHasRoom c.args.frames)) pushed
          (All-push (SeatHasRoom c.args.frames) seats c.in_ok-seat.seat h.rooms c.in_ok-seat.ensures.room);
      none = subst (All (IsNewSeat c.args.frames)) pushed (All-push (IsNewSeat c.args.frames) seats c.in_ok-seat.seat h.none
          record { part = c.in_ok-seat.ensures.part; references = c.in_ok-seat.ensures.none });
    }

pub returns-clause-rooms : goal.returns-clause-rooms
returns-clause-rooms c = c.loop-cpu.invariant.rooms

pub returns-clause-none : goal.returns-clause-none
returns-clause-none c = c.loop-cpu.invariant.none
