pub mod Answer
pub mod Beside
pub mod Columns
pub mod Envelope
pub mod Pieces
pub mod Rows
pub mod Scans
