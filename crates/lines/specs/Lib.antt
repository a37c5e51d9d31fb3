pub mod Corners
pub mod Asked
pub mod Replies
pub mod Said
pub mod Told
pub mod Hex
