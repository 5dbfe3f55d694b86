pub mod Causes
pub mod Doubts
pub mod Ends
pub mod Findings
pub mod Forms
pub mod Lines
pub mod Pasts
pub mod Refusals
pub mod Refused
pub mod Script
pub mod Texts
-- what other crates and the proofs import by one name, `Rattle.script_lint.specs`
pub use Rattle.script_lint.specs.Causes.{byte_at, cause_at, is_between_words, is_byte_order_mark, is_cpu_out_of_range, is_double_space}
pub use Rattle.script_lint.specs.Causes.{is_frame_out_of_zone, is_group_out_of_range, is_gzip, is_late_comment, is_no_cpu, is_number_out_of_range}
pub use Rattle.script_lint.specs.Causes.{is_printable, is_unknown_command, is_wide_text, later_cause_at, verb_of, word_behind}
pub use Rattle.script_lint.specs.Doubts.{IsDoubtful}
pub use Rattle.script_lint.specs.Ends.{IsNamedBy, ends, example_text}
pub use Rattle.script_lint.specs.Findings.{AreFindings, IsFinding, IsFoundInText, IsLinted, IsTextLinted, IsWithin, Names}
pub use Rattle.script_lint.specs.Forms.{form_text_of}
pub use Rattle.script_lint.specs.Lines.{GoesOn, HasValidCounts, IsCause, IsGoodHere, IsGoodText, IsRequest, IsSpot, IsStuck, spot_past_limit}
pub use Rattle.script_lint.specs.Lines.{stuck_spot, whole_spot}
pub use Rattle.script_lint.specs.Pasts.{IsMissing, KnowsPast, has_path, is_made, makes}
pub use Rattle.script_lint.specs.Refusals.{IsJudgedText, IsRefused, IsRefusedAfter}
pub use Rattle.script_lint.specs.Refused.{AreJudged, AreRefused, numbered, refused_line_text}
pub use Rattle.script_lint.specs.Script.{AddsFinding, AddsSpot}
pub use Rattle.script_lint.specs.Texts.{cause_text, finding_text, shown_word_text, sizes_text}
