-- What a core stores, and how a contract sees it.
use Rattle.std.specs.Prelude.{◌≡◌, ℕ, ◌*◌, ◌^◌, ◌<◌, ◌≤◌, List, map, vec_len, vec_capacity}
use Rattle.group_tree.specs.Bounds.{most_groups}
use Rattle.zone_blocks.specs.declared.block.Block.{Block}
use Rattle.zone_blocks.specs.Areas.{AreMaximalBlocks}
use Rattle.step_rules.specs.{free_in, KeepsInvariant, IsHomed}
use Rattle.mem_core.specs.declared.seat.SeatRow.{SeatRow}
use Rattle.mem_core.specs.declared.rows.Rows.{Rows}
use Rattle.mem_core.specs.Rows.{state_in, part_in}
use Rattle.mem_core.specs.Rooms.{FitsZone}
use Rattle.mem_core.specs.Bounded.{IsBounded}
use Rattle.mem_core.specs.declared.reading_core.Core.TheInside.{Inside}
use Rattle.mem_core.specs.Accounts.{Account, HaveSmallPeaks}
use Rattle.mem_core.specs.Shown.{SeatState, CoreState}

-- what a contract sees of a seat: its references and its part
abbrev pub seat_shown : SeatRow → SeatState
seat_shown s = record { references = s.references; part = part_in s }

-- the core state that these rows show, with these accounts and areas, after this many steps
abbrev pub rows_shown : Rows → List Account → List Block → ℕ → CoreState
rows_shown rows accounts areas steps = record {
  zone = record { frames = rows.frames; cpus = rows.cpus; groups = rows.groups };
  hold = rows.hold;
  groups = rows.tree;
  killed = rows.killed.items;
  phases = rows.phases;
  seats = map seat_shown rows.seats.items;
  pending = rows.pending.items;
  accounts = accounts;
  areas = areas;
  steps = steps;
}

-- the state that a core shows
abbrev pub core_state : Inside → CoreState
core_state c = rows_shown c.rows c.accounts.items c.areas.blocks c.steps

-- The parts of a core agree. The rows have the zone's size, and their state keeps the invariant, names only existing
-- groups, and is bounded by the number of steps. The areas are the maximal blocks of the free frames.
pub record IsWhole (c : Inside) : Type 0 where
  pub fits : FitsZone c.rows
  pub sound : KeepsInvariant (state_in c.rows)
  pub homed : IsHomed (state_in c.rows)
  pub bounded : IsBounded (c.steps * 2 ^ 32) (state_in c.rows)
  pub accounts : vec_len c.accounts ≡ most_groups
  pub peaks : HaveSmallPeaks c.accounts.items
  pub few : c.steps < 2 ^ 64
  pub frames : c.areas.frames ≡ c.rows.frames
  pub room : c.rows.frames ≤ vec_capacity c.free
  pub areas : AreMaximalBlocks (free_in (state_in c.rows).zone (state_in c.rows).phases) c.areas.blocks
