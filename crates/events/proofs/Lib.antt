pub mod accounts
pub mod invariants
pub mod logs
pub mod shared_words
pub mod steps
pub mod Names
