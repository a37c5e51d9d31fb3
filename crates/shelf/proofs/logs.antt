-- Lemmas on the one log that a table's words and seats have.
pub mod ClosingSums
pub mod LogParts
pub mod NowLemmas
pub mod OneCore
pub mod OneLog
pub mod Schedules
