pub mod EndLemmas
pub mod HealLemmas
pub mod StartLemmas
pub mod PoolLemmas
