pub mod FlushLemmas
pub mod SurvivalLemmas
