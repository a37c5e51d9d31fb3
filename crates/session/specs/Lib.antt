pub mod Sessions
pub mod Lending
