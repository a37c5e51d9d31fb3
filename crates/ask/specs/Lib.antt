pub mod Asking
pub mod Passing
pub mod Talking
