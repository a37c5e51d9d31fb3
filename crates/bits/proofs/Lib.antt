pub mod CellsLemmas
pub mod ChangesLemmas
mod FillLemmas
pub mod Framing
pub mod StoredLemmas
pub mod TileLemmas
pub mod WriteLemmas
mod PutLemmas
pub mod BandLemmas
mod LayLemmas
pub mod RegroupLemmas
pub mod TileBitsLemmas
pub mod TileDrawLemmas
pub mod WordBits
