pub mod dist
pub mod Runs
