pub mod Blocks
pub mod Ownership
pub mod Lending
pub mod Chain
