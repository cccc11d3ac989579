pub mod NodesCross
mod WantedLemmas
