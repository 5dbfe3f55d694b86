pub mod Names
pub mod Places
pub mod Script
pub mod Verb
-- what other crates and the proofs import by one name, `Rattle.script_lines.specs`
pub use Rattle.script_lines.specs.Names.{IsWordEnd, code_of, is_word}
pub use Rattle.script_lines.specs.Places.{IsFirstPlace, IsFrontOf, IsLineEnd, IsPathEnd}
pub use Rattle.script_lines.specs.Script.{AreLines, BeginsWithName, IsCut, IsCutAt, IsFirstBadLine, IsGoodLine, IsLimit, IsLineText, IsNamed}
pub use Rattle.script_lines.specs.Script.{IsScript, asking_texts, ended_lines, has_go, is_go, is_skipped, texts_left, texts_of}
pub use Rattle.script_lines.specs.Verb.{IsNames, IsPathText, all_verbs, by_name, form_of_verb, its_verb, name_of_verb, verb_coded}
