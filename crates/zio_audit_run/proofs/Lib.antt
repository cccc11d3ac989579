pub mod CodeLemmas
pub mod DueLemmas
pub mod FetchLemmas
pub mod JudgeLemmas
pub mod ReadLemmas
pub mod SizeLemmas
pub mod TripLemmas
