mod BesideLemmas
mod Entries
mod Envelopes
mod Putting
mod Crossings
pub mod Nears
mod Filling
mod PieceLemmas
mod ScanLemmas
