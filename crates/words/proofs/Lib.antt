mod Fronts
mod LineSplitting
mod Numbering
mod Pointing
pub mod Splitting
