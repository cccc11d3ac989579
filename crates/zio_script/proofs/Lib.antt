pub mod AcceptedLemmas
pub mod BatchSizeLemmas
pub mod BodyLemmas
pub mod BuilderLemmas
pub mod KeyLemmas
mod LineShapeLemmas
pub mod ListLemmas
pub mod MarkLemmas
pub mod OpenBatchLemmas
pub mod ReadLemmas
pub mod RequestLemmas
pub mod StandLemmas
pub mod WordLemmas
