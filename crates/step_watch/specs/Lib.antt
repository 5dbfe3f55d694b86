pub mod Watched
-- what other crates and the proofs import by one name, `Rattle.step_watch.specs`
pub use Rattle.step_watch.specs.Watched.{AreAllowedFrom, IsNewWatch, KnownWatch, SawRun, Watches, has_legal_steps, log_text, state_seen, steps_text}
