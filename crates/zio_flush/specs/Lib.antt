pub mod Flushed
pub mod Survival
