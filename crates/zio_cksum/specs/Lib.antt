pub mod Blocks
pub mod Frames
pub mod Headers
pub mod Images
pub mod Sums
pub use Rattle.zio_blkptr.specs.Pointers
pub use Rattle.zio_faults.specs.Hits
