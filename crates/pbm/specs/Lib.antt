pub mod Faults
pub mod Image
pub mod Plain
pub mod Raw
pub mod Windows
pub mod Writing
