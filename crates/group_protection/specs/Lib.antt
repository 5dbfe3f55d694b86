pub mod Breaches
pub mod Protections
pub mod Shares
