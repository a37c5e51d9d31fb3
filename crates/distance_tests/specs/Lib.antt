pub mod Quadrupled
pub mod Raised
