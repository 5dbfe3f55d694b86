-- A new seat has the room that was asked for.
use Rattle.std.proofs.Common.{◌∙◌, ap, length}
use Rattle.std.proofs.lemmas.List.{length-replicate}
use Rattle.mem_core.proofs.seat.new_seat.Goals as goal

pub returns-clause-none : goal.returns-clause-none
returns-clause-none c = c.in_ok-references.ensures

pub returns-clause-room : goal.returns-clause-room
returns-clause-room c = record {
  references = ap length c.in_ok-references.ensures ∙ length-replicate c.args.frames 0;
  list = c.in_ok-list.ensures.capacity;
  fresh = c.in_ok-fresh.ensures.capacity;
  back = c.in_ok-back.ensures.capacity;
}
