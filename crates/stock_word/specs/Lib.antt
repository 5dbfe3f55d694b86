pub mod Stock
-- what other crates and the proofs import by one name, `Rattle.stock_word.specs`
pub use Rattle.stock_word.specs.Stock.{HasWord, drained_of, group_of, report_index, stock_index, stock_pages_of, word_of}
