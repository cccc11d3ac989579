pub mod Leaving
pub mod Linked
