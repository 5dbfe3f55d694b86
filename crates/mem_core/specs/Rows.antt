-- The state of the rules that rows of lists and numbers show.
use Rattle.std.specs.Prelude.{ℕ, Option, Some, None, false}
use Rattle.std.specs.List.{slice_get, slice_index_or}
use Rattle.step_rules.specs.declared.phase.Phase.TheVariants.{InZone}
use Rattle.step_rules.specs.State.{Part, State, no_part}
use Rattle.mem_core.specs.declared.seat.SeatRow.{SeatRow}
use Rattle.mem_core.specs.declared.rows.Rows.{Rows}

-- a seat's part: its lists, its stock and its book
abbrev pub part_in : SeatRow → Part
part_in s = record {
  list = s.list.items;
  fresh = s.fresh.items;
  back = s.back.items;
  stock = record { group = s.group; pages = s.pages; is_drained = s.is_drained };
  book = s.book;
  unreported = s.unreported;
  reported = s.reported;
}

-- the part of a seat; if there is no seat, an empty one
abbrev pub part_in_row : Option SeatRow → Part
part_in_row None = no_part
part_in_row (Some s) = part_in s

-- the references of a seat on a frame; 0 if there is no seat
abbrev pub reference_of : Option SeatRow → ℕ → ℕ
reference_of None f = 0
reference_of (Some s) f = slice_index_or s.references f 0

-- the state that the rows show; past the end of each list, as at boot
abbrev pub state_in : Rows → State
state_in r = record {
  zone = record { frames = r.frames; cpus = r.cpus; groups = r.groups };
  hold = r.hold;
  groups = r.tree;
  killed = λ g. slice_index_or r.killed.items g false;
  phases = λ f. slice_index_or r.phases f InZone;
  references = λ seat f. reference_of (slice_get r.seats.items seat) f;
  parts = λ cpu. part_in_row (slice_get r.seats.items cpu);
  pending = λ g. slice_index_or r.pending.items g 0;
}
