pub mod Holdings
pub mod Judging
pub mod Carries
pub mod Desks
