pub mod Measured
pub mod Parts
pub mod Putting
pub mod RowCells
pub mod Table
pub mod Tabled
