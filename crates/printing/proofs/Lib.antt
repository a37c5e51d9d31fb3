mod Fours
mod Lines
mod MeasuredLines
mod PuttingLemmas
mod QuadLemmas
mod RowLemmas
mod PartLemmas
pub mod KeptLemmas
