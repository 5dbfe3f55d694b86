-- What the loop of `new_seats` keeps.
use Rattle.std.proofs.Common.{◌≡◌, ◌+◌, All, vec_len, vec_capacity}
use Rattle.mem_core.specs.Rooms.{SeatHasRoom, IsNewSeat}
use Rattle.mem_core.proofs.boot.new_seats.Given as goal

abbrev pub invariant-loop-cpu : goal.invariant-loop-cpu
invariant-loop-cpu l = record {
  size : vec_len l.seats ≡ l.cpu;
  room : vec_capacity l.seats ≡ l.fn.cpus + 1;
  rooms : All (SeatHasRoom l.frames) l.seats.items;
  none : All (IsNewSeat l.frames) l.seats.items;
}
