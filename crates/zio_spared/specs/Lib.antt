pub mod Crashes
pub mod Spared
pub mod SparedExamples
