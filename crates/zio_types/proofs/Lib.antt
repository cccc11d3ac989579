pub mod ErrorLemmas
pub mod ListLemmas
pub mod MachineLemmas
