pub mod Characters
pub mod Blocks
pub mod Places
pub mod Show
pub mod Stat
pub mod Stock
pub mod Units
pub mod Lines
pub mod Explanation
pub mod Refused
-- what other crates and the proofs import by one name, `Rattle.machine_texts.specs`
pub use Rattle.machine_texts.specs.Blocks.{blocks_text}
pub use Rattle.machine_texts.specs.Show.{show_text}
pub use Rattle.machine_texts.specs.Stat.{memory_stat}
pub use Rattle.machine_texts.specs.Stock.{stock_line_text}
pub use Rattle.machine_texts.specs.Explanation.{explanation_text}
