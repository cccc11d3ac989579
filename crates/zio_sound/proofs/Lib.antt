pub mod Leaving
pub mod Linked
pub mod Oracled
pub mod SettledRounds
pub mod SoundRounds
