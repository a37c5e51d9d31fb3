mod CopyLemmas
mod CostLemmas
mod LayoutLemmas
mod ManyLemmas
mod MarkLemmas
mod PaintLemmas
mod TileLemmas
mod Names
