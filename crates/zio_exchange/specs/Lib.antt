pub mod LeafOps
pub mod Outcomes
pub mod SpaceCalls
pub mod Waits
pub mod WholeSizes
pub mod Wholes
pub mod WithinParts
