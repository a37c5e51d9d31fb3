-- Lemmas on seats: whose view each has, and what it keeps besides.
pub mod Bridge
pub mod HandedSeats
pub mod KeeperSeats
pub mod Moved
pub mod Newcomers
pub mod Owners
pub mod OwnTable
pub mod ReaderSeats
