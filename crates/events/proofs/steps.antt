-- Lemmas on what each event does to a world, by its parts.
pub mod DoesLemmas
pub mod Events
pub mod OpenWorld
pub mod StepLemmas
