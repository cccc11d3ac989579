pub mod Entries
pub mod Moves
pub mod Parts
pub mod Stages
