pub mod Faults
pub mod Pointers
pub use Rattle.zio_types.specs.Places
