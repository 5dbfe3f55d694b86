pub mod Crossing
pub mod Numbers
pub mod Plain
pub mod Refusing
pub mod Showing
pub mod Finding
pub mod Lives
pub mod Naming
