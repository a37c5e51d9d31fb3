-- Lemmas on where the shared words stand, and on what a publish stores.
pub mod OpenWords
pub mod PlaceLemmas
pub mod PublishWords
