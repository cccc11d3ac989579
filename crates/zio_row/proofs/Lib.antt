pub mod RowBlock
pub mod RowEnds
pub mod RowPlaces
pub mod RowReport
pub mod RowRun
pub mod RowScript
