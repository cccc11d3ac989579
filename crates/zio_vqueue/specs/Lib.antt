pub mod Classes
pub mod Groups
pub mod Queues
pub mod Spots
pub mod Members
