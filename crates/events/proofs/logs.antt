-- Lemmas on logs: what they tell of the draft, of versions and of replies, and what is kept of
-- them.
pub mod DrawLemmas
pub mod KeptAfter
pub mod KeptLemmas
pub mod LedgerLemmas
pub mod LogLemmas
pub mod Replies
pub mod SummaryCollect
pub mod SummaryDraw
pub mod SummaryPublish
