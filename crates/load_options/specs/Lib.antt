pub mod Fault
pub mod Sizes
pub mod Words
-- what other crates and the proofs import by one name, `Rattle.load_options.specs`
pub use Rattle.load_options.specs.Sizes.{HasSizesInRange}
pub use Rattle.load_options.specs.Words.{GivesOptions, options_of}
