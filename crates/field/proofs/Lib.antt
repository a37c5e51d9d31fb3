pub mod BandLemmas
mod ObstacleLemmas
mod RowLemmas
mod StripLemmas
mod DistanceLemmas
mod HalfLemmas
mod CompactLemmas
