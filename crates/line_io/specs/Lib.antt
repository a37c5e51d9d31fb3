pub mod Wire
pub mod Lines
pub mod Counted
pub mod Saying
