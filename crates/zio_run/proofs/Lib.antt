pub mod DurableLemmas
pub mod EngineLemmas
pub mod RunLemmas
