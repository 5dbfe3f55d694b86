mod Breaking
mod Claiming
pub mod Effective
mod Parting
mod Ranking
pub mod Sharing
mod SmallSharing
pub mod SumsBelow
pub mod Topping
