mod CommandLemmas
mod PinLemmas
mod OpeningLemmas
mod ClosingLemmas
