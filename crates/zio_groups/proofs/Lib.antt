pub mod ByteLemmas
pub mod CoverLemmas
pub mod GroupLemmas
pub mod IssueLemmas
pub mod QueueLemmas
pub mod SpanLemmas
pub mod TakeLemmas
