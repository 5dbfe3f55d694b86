pub mod Asking
pub mod Behind
pub mod Calls
pub mod Handles
pub mod Kinds
pub mod Replays
pub mod Statuses
pub mod HandleCalls
pub mod Commands
pub mod Known
pub mod Lives
pub mod Owned
pub mod Serving
-- what other crates and the proofs import by one name, `Rattle.tempolemon_c.specs`
pub use Rattle.tempolemon_c.specs.Behind.{behind}
pub use Rattle.tempolemon_c.specs.Calls.{CallsBehind, CallsInto, HasFileBehind, HasGroupsBehind, PutsAnswer, RefusesBehind, ReturnsAnswer}
pub use Rattle.tempolemon_c.specs.Calls.{ReturnsText, ReturnsValue}
pub use Rattle.tempolemon_c.specs.Handles.{LiveBoot, ended_of}
pub use Rattle.tempolemon_c.specs.Kinds.{result_of, shown_length, status_of}
pub use Rattle.tempolemon_c.specs.Statuses.{most_refusal}
pub use Rattle.tempolemon_c.specs.HandleCalls.{CallsLive, GroupHasFiles, IsCpu, NamesMissingFrame, RefusesCall, ReturnsCommandAnswer, ShowsFile}
pub use Rattle.tempolemon_c.specs.Commands.{SameButState, StopsText}
pub use Rattle.tempolemon_c.specs.Known.{KnownLive}
pub use Rattle.tempolemon_c.specs.Lives.{AreCalls, CallOnHandle, LivesAreLegalRuns, TypedCallsAreCalls, steps_before_stop, steps_of_call}
pub use Rattle.tempolemon_c.specs.Lives.{steps_of_calls, steps_of_life}
pub use Rattle.tempolemon_c.specs.Owned.{live_owns, live_row}
