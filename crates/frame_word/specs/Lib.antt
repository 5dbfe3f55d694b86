pub mod Word
-- what other crates and the proofs import by one name, `Rattle.frame_word.specs`
pub use Rattle.frame_word.specs.Word.{mark, visit_index}
