pub mod Causes
pub mod Codes
pub mod Files
pub mod Reads
pub mod Words
