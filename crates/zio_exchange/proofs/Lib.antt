pub mod ForestLemmas
pub mod WholeLemmas
pub mod SumLemmas
