pub mod Accounts
pub mod Checked
pub mod Inside
pub mod Promise
pub mod Ready
pub mod Shown
pub mod Rows
pub mod Rooms
pub mod Counted
pub mod Tables
pub mod Bounded
pub mod Conditions
-- what other crates and the proofs import by one name, `Rattle.mem_core.specs`
pub use Rattle.mem_core.specs.Accounts.{AccountsFollow, HaveSmallPeaks, account_after, account_in, new_account}
pub use Rattle.mem_core.specs.Checked.{IsFirstIllegal, IsVerdict, Leads}
pub use Rattle.mem_core.specs.Inside.{IsWhole, core_state, rows_shown, seat_shown}
pub use Rattle.mem_core.specs.Promise.{AlwaysKeepsPromise, AlwaysPlacesFirst, CoreKeepsPromise, PlacesFrontIn, core_shown}
pub use Rattle.mem_core.specs.Shown.{AccountsMatchRun, CoreState, HasMaximalAreas, ShowsRun, part_of_seat, reference_at, state_shown, zone_of_config}
pub use Rattle.mem_core.specs.Rows.{part_in_row, reference_of, state_in}
pub use Rattle.mem_core.specs.Rooms.{FitsZone, IsBelowBounds, IsNewSeat, PlacesFront, SeatHasRoom, pages_asked}
pub use Rattle.mem_core.specs.Counted.{IsTally, class_in, keeper_class, transit_class}
pub use Rattle.mem_core.specs.Tables.{sum_of}
pub use Rattle.mem_core.specs.Bounded.{HolderIsThere, IsBounded, pages_out}
pub use Rattle.mem_core.specs.Conditions.{conditions_of, is_met, quantity_in}
