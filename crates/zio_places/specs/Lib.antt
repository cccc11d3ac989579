pub mod Consistent
pub mod Flags
pub mod Ordered
pub mod FreeRuns
pub mod RunsFall
pub mod Spaces
pub mod Tables
pub mod Words
