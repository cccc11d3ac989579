pub mod Outs
pub mod Sums
pub mod Keeps
pub mod Seats
pub mod Shown
