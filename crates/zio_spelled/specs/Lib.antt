pub mod Laws
pub mod Reading
pub mod Rounds
pub mod Spelled
pub mod Worked
