pub mod Capped
pub mod Carrying
pub mod Columns
pub mod Lines
pub mod Spots
pub mod Marks
pub mod Tabled
