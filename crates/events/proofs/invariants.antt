-- Lemmas on what holds after each legal log, of the keeper and of each reader.
pub mod SafeLemmas
pub mod SoundBlocks
pub mod SoundCommit
pub mod SoundKeeper
pub mod SoundReader
pub mod TidyCollect
pub mod TidyDraft
pub mod TidyLog
pub mod TidyOpened
pub mod TidyPublish
