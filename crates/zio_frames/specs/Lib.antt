pub mod Answering
pub mod Frames
pub mod Moves
pub mod OfRound
pub mod Running
pub mod Seats
pub mod Slots
