-- What must hold of rows before a step: they are of the zone's size, and no number is near its bound.
use Rattle.std.specs.Prelude.{◌≡◌, ◌+◌, ◌^◌, ◌<◌, ◌≤◌, ℕ, true, false, List, All, replicate, length, vec_len, vec_capacity}
use Rattle.group_tree.specs.Bounds.{most_groups}
use Rattle.zone_blocks.specs.{most_cpus, most_frames, IsFrontOfSmallest, AreMaximalBlocks}
use Rattle.step_rules.specs.{Kind, has_as, is_live_phase, frames_of, free_in, front_of, is_cpu, pins_of, visits, IsAnswer, IsCounted, after, no_part}
use Rattle.step_rules.specs.State.{State}
use Rattle.zone_blocks.specs.declared.block.Block.{Block}
use Rattle.step_rules.specs.declared.step.Action.{Action}
use Rattle.step_rules.specs.declared.step.Action.TheVariants.{Fill, Grant, PlaceBlock}
use Rattle.step_rules.specs.declared.step.Answer.TheVariants.{Placed}
use Rattle.step_rules.specs.declared.step.Answer.{Answer}
use Rattle.mem_core.specs.declared.seat.SeatRow.{SeatRow}
use Rattle.mem_core.specs.declared.rows.Rows.{Rows}
use Rattle.mem_core.specs.Rows.{state_in, part_in}

-- a seat has a number of references for each frame, and room on its list for all frames; the rules let it have no more
-- than 32 fresh frames and 256 back frames
pub record SeatHasRoom (frames : ℕ) (s : SeatRow) : Type 0 where
  pub references : length s.references ≡ frames
  pub list : frames ≤ vec_capacity s.list
  pub fresh : 32 ≤ vec_capacity s.fresh
  pub back : 256 ≤ vec_capacity s.back

-- the rows are of the zone's size: there is a phase for each frame, a seat for the zone and each CPU, and a place for
-- each group number
pub record FitsZone (r : Rows) : Type 0 where
  pub frames : r.frames ≤ most_frames
  pub cpus : r.cpus ≤ most_cpus
  pub phases : length r.phases ≡ r.frames
  pub seats : vec_len r.seats ≡ r.cpus + 1
  pub killed : vec_len r.killed ≡ most_groups
  pub pending : vec_len r.pending ≡ most_groups
  pub rooms : All (SeatHasRoom r.frames) r.seats.items

-- No number is near its bound. A seat has at most 255 references on a frame, and only on a live one. A book is the
-- pages of the stock, the fresh frames, and the pages unreported and reported. Books and pending pages are at most
-- 2^96. A frame that isn't of a kind has room on the list of that kind. The front of a list is a frame of the zone. A
-- CPU has at most 256 pins and back frames. Only a CPU visits.
pub record IsBelowBounds (s : State) : Type 0 where
  pub references : (seat f : ℕ) → s.references seat f ≤ 255
  pub booked : (cpu : ℕ) → (s.parts cpu).book
      ≡ (s.parts cpu).stock.pages + length (s.parts cpu).fresh + (s.parts cpu).unreported + (s.parts cpu).reported
  pub books : (cpu : ℕ) → (s.parts cpu).book ≤ 2 ^ 96
  pub pending : (g : ℕ) → s.pending g ≤ 2 ^ 96
  pub room : (cpu : ℕ) (kind : Kind) (f : ℕ) → f < s.zone.frames → has_as kind cpu (s.phases f) ≡ false
      → length (frames_of (s.parts cpu) kind) < s.zone.frames
  pub live : (seat f : ℕ) → 1 ≤ s.references seat f → is_live_phase (s.phases f) ≡ true
  pub front : (cpu : ℕ) → 1 ≤ length (s.parts cpu).list → front_of (s.parts cpu).list < s.zone.frames
  pub pins : (cpu : ℕ) → is_cpu s.zone cpu ≡ true → pins_of s cpu + length (s.parts cpu).back ≤ 256
  pub visitor : (cpu : ℕ) → visits cpu s.hold ≡ true → cpu ≤ s.zone.cpus

-- a step that may be made gets this answer, and leaves these rows
pub record MakesOnRows (old : Rows) (seat : ℕ) (action : Action) (answer : Answer) (new : Rows) : Type 0 where
  pub answered : IsAnswer (state_in old) seat action answer
  pub counted : IsCounted (state_in old) action answer
  pub state : state_in new ≡ after (state_in old) seat action answer
  pub fits : FitsZone new

-- a seat keeps its references and its room
pub record KeepsRoom (old new : SeatRow) : Type 0 where
  pub references : new.references ≡ old.references
  pub list : vec_capacity new.list ≡ vec_capacity old.list
  pub fresh : vec_capacity new.fresh ≡ vec_capacity old.fresh
  pub back : vec_capacity new.back ≡ vec_capacity old.back

-- a seat keeps the room of its lists
pub record KeepsCapacity (old new : SeatRow) : Type 0 where
  pub list : vec_capacity new.list ≡ vec_capacity old.list
  pub fresh : vec_capacity new.fresh ≡ vec_capacity old.fresh
  pub back : vec_capacity new.back ≡ vec_capacity old.back

-- the placed block is the front of the smallest sufficient free block (Knuth)
abbrev pub PlacesFront : List Block → Action → Answer → Type 0
PlacesFront areas (PlaceBlock g k) (Placed b) = IsFrontOfSmallest areas k b
PlacesFront areas action answer = Unit {0}

-- only a block that is to be placed is looked up in the areas, which then are the maximal blocks of the free frames
-- (Knuth)
abbrev pub AreasFor : State → Action → List Block → Type 0
AreasFor s (PlaceBlock g k) areas = AreMaximalBlocks (free_in s.zone s.phases) areas
AreasFor s action areas = Unit {0}

-- the pages that a step asks for: to be granted, or filled into a stock
abbrev pub pages_asked : Action → ℕ
pages_asked (Grant g n) = n
pages_asked (Fill cpu g n) = n
pages_asked action = 0

-- a seat that has nothing, and no reference on any frame
pub record IsNewSeat (frames : ℕ) (s : SeatRow) : Type 0 where
  pub part : part_in s ≡ no_part
  pub references : s.references ≡ replicate frames 0
