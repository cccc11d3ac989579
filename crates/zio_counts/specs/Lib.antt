pub mod Broods
pub mod Kept
pub mod Tallies
