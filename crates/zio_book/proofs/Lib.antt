pub mod Sums
pub mod Steps
pub mod Seats
pub mod Receipts
pub mod Ends
pub mod Closing
