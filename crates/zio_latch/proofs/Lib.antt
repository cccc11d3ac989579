mod Words
mod Lists
mod Views
pub mod Histories
mod Stages
mod Adds
mod Starts
mod Rolls
mod Waits
mod Slots
mod Gives
mod Lowers
mod Arrives
mod Settles
mod Dues
mod Receipts
mod Wakings
