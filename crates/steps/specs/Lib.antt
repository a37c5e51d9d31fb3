pub mod Opening
pub mod StepAnswers
pub mod StepLines
pub mod StepRuns
pub mod Steps
