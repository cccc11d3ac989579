pub mod Row
pub mod Sinks
