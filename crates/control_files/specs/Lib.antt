pub mod Files
pub mod Flag
pub mod Limit
pub mod Reading
pub mod Stat
pub mod Strings
pub mod Text
-- what other crates and the proofs import by one name, `Rattle.control_files.specs`
pub use Rattle.control_files.specs.Files.{file_text, flag_text, is_readable, is_writable, limit_text, name_of_file, pages_text}
pub use Rattle.control_files.specs.Flag.{IsFlagReading, IsFlagText, IsNoFlagText, flag_word}
pub use Rattle.control_files.specs.Limit.{AreSpaces, IsAmount, IsLimitText, IsLimitWord, IsNoAmountText, IsNoLimitText, IsSuffix, IsTooGreat}
pub use Rattle.control_files.specs.Limit.{ReadsAmount, ReadsAs, is_space, page_bytes, pages_covering}
pub use Rattle.control_files.specs.Reading.{BeginsOutside, HasNoSpace, HasOnlyWord, IsAmountReading, IsOnlyWord, IsReading, SplitsDigits}
pub use Rattle.control_files.specs.Stat.{file_pages, stat_text}
pub use Rattle.control_files.specs.Strings.{AddsBytes}
