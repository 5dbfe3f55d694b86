pub mod Faults
pub mod Forms
pub mod Histories
pub mod Known
pub mod Lines
pub mod Logs
pub mod Sessions
pub mod Turns
pub mod Streams
pub mod Writing
-- what other crates and the proofs import by one name, `Rattle.line_server.specs`
pub use Rattle.line_server.specs.Forms.{SessionTerms, bad_line_answer, session_terms}
pub use Rattle.line_server.specs.Histories.{LegalTurnsKeepIt, TurnsKeepPromise, steps_in_form, steps_of_turn, steps_of_turns}
pub use Rattle.line_server.specs.Known.{KeepsTerms, KnownServer, terms_of}
pub use Rattle.line_server.specs.Lines.{ReadsLine, RefusesText, text_of}
pub use Rattle.line_server.specs.Sessions.{AnswersTurns, EndsHere, EndsTurn, FailsSession, FailsTurn, HoldsSession, ReadsTurns, ServesSession}
pub use Rattle.line_server.specs.Sessions.{WritesOne, session_text}
pub use Rattle.line_server.specs.Turns.{AnswersLine, AnswersServed, AnswersTurn, GivesAnswer, HasAnswer, ServesInForm, Turn, WritesTurn, turn_text}
