-- What a checker stores, and how a contract sees it.
use Rattle.std.specs.Prelude.{◌≡◌, ◌*◌, ◌^◌, ◌<◌, ◌≤◌, [], vec_capacity}
use Rattle.step_rules.specs.Invariant.{KeepsInvariant, IsHomed}
use Rattle.mem_core.specs.Rows.{state_in}
use Rattle.mem_core.specs.Rooms.{FitsZone}
use Rattle.mem_core.specs.Bounded.{IsBounded}
use Rattle.mem_core.specs.declared.checker.Checker.TheInside.{Inside}
use Rattle.mem_core.specs.Shown.{CoreState}
use Rattle.mem_core.specs.Inside.{rows_shown}

-- the state that a checker shows, without accounts and areas
abbrev pub checker_state : Inside → CoreState
checker_state c = rows_shown c.rows [] [] c.steps

-- The parts of a checker agree. The rows have the zone's size, and their state keeps the invariant, names only existing
-- groups, and is bounded by the number of steps. There is room for the areas.
pub record IsReady (c : Inside) : Type 0 where
  pub fits : FitsZone c.rows
  pub sound : KeepsInvariant (state_in c.rows)
  pub homed : IsHomed (state_in c.rows)
  pub bounded : IsBounded (c.steps * 2 ^ 32) (state_in c.rows)
  pub few : c.steps < 2 ^ 64
  pub frames : c.areas.frames ≡ c.rows.frames
  pub room : c.rows.frames ≤ vec_capacity c.free
