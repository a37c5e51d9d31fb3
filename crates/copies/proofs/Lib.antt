mod ReadingLemmas
pub mod BandCopies
pub mod CopyingLemmas
