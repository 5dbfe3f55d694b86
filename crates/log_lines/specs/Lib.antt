pub mod Line
pub mod Log
pub mod Names
pub mod Reading
pub mod Words
-- what other crates and the proofs import by one name, `Rattle.log_lines.specs`
pub use Rattle.log_lines.specs.Line.{IsLogLineText, IsZone, longest_log_line}
pub use Rattle.log_lines.specs.Log.{AreLinesOf, EndsBadly, IsFirstBadLogLine, IsLog, MayBegin, SayInOrder, WholeLog, says_something, line_of_zone}
pub use Rattle.log_lines.specs.Reading.{is_end, words_left, words_of}
pub use Rattle.log_lines.specs.Words.{Fits, Size, Word, bound_of, is_graphic, is_no_space, spaced, word_text}
