mod Hearing
mod Keeping
mod OpeningLemmas
mod StepAnswering
mod Telling
