pub mod Blocks
pub mod Choosers
pub mod EntryLaws
pub mod Claims
pub mod Laid
pub mod Parts
