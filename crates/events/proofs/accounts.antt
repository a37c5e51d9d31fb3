-- Lemmas on blocks: which are free, the draft's own, newest's or retired, and how many there are.
pub mod CameLemmas
mod CountLemmas
pub mod FreedLemmas
pub mod GiveBack
pub mod PublishOwn
pub mod RetiredLemmas
pub mod SeenBlocks
pub mod SpareLemmas
pub mod TakeBlocks
pub mod TileCounts
pub mod TimesLemmas
pub mod UsedLemmas
