pub mod Appending
pub mod CellwiseLemmas
pub mod Decimals
pub mod Growing
pub mod LaneLemmas
pub mod NearestLemmas
mod Separators
pub mod Taking
