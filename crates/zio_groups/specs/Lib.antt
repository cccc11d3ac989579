pub mod Issued
pub mod LeafQueues
pub mod Spans
