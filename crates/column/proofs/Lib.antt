mod Caps
mod SoughtLemmas
mod Marking
mod Nearest
mod Seeking
pub mod Places
mod Tables
mod LineLemmas
mod SpotRows
