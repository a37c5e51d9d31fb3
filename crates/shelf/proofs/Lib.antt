pub mod logs
pub mod seats
pub mod steps
mod Names
