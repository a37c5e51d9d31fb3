-- What the command `dist` writes.
pub mod Dist
pub mod Query
pub mod Replied
