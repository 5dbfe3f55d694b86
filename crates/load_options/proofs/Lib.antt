pub mod Asking
pub mod Rules
