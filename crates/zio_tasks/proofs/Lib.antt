pub mod Lists
pub mod Stays
pub mod Moves
pub mod Passes
pub mod Recruits
pub mod Order
pub mod Settling
mod Lone
