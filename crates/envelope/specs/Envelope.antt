-- The stack of a row: this project's own rule. Each span says which column is the nearest to its
-- cells; nothing is said of how it was found.
use Rattle.std.specs.Prelude.{◌≡◌, ℕ, ◌-◌, ◌<◌, ◌≤◌, List, slice_index_or}
use Rattle.std.proofs.Common.{zero, suc}
use Rattle.envelope.specs.declared.cover.Span.{Span}
use Rattle.envelope.specs.Columns.{IsBest, IsCrossing, distance_from}

-- no span
abbrev pub no_span : Span
no_span = record { start = 0; column = 0; gap = 0 }

-- the span at a place of the stack
abbrev pub span_at : List Span → ℕ → Span
span_at spans place = slice_index_or spans place no_span

-- the span's column is the nearest to each cell from its start up to the end
pub record IsSpan (distance : ℕ → ℕ → ℕ) (gaps : ℕ → ℕ) (Among : ℕ → Type 0) (span : Span)
    (end : ℕ) : Type 0 where
  pub some : span.start < end
  pub best : (x : ℕ) → span.start ≤ x → x < end → IsBest distance gaps Among x span.column
  pub gap_is : span.gap ≡ gaps span.column

-- the first spans are those of all cells up to the end, each up to the start of the next
abbrev pub IsEnvelope : (ℕ → ℕ → ℕ) → (ℕ → ℕ) → (ℕ → Type 0) → List Span → ℕ → ℕ → Type 0
IsEnvelope distance gaps Among spans zero end = end ≡ 0
IsEnvelope distance gaps Among spans (suc count) end =
    IsSpan distance gaps Among (span_at spans count) end
    × IsEnvelope distance gaps Among spans count (span_at spans count).start

-- the first spans are those of the whole row, or there is none and no column
pub record IsCovered (distance : ℕ → ℕ → ℕ) (gaps : ℕ → ℕ) (Among : ℕ → Type 0) (spans : List Span)
    (count width : ℕ) : Type 0 where
  pub none : count ≡ 0 → (column : ℕ) → Among column → ⊥
  pub some : 0 < count → IsEnvelope distance gaps Among spans count width

-- the first spans are those of the cells up to an end, where one more column gets nearer than all
pub record IsCutAt (distance : ℕ → ℕ → ℕ) (gaps : ℕ → ℕ) (Among : ℕ → Type 0) (spans : List Span)
    (count width column : ℕ) : Type 0 where
  pub end : ℕ
  pub within : end ≤ width
  pub covered : IsEnvelope distance gaps Among spans count end
  pub beyond : (x : ℕ) → end ≤ x → x < width → (other : ℕ) → Among other
      → distance_from distance gaps column x < distance_from distance gaps other x

-- these spans stay for one more column, which is strictly nearer from the end of the last one on
pub record AreSpansKept (distance : ℕ → ℕ → ℕ) (gaps : ℕ → ℕ) (Among : ℕ → Type 0)
    (spans : List Span) (count kept width column : ℕ) : Type 0 where
  pub few : kept ≤ count
  pub cut : IsCutAt distance gaps Among spans kept width column
  pub top : 0 < kept → let span = span_at spans (kept - 1) in
      distance_from distance gaps span.column span.start
      ≤ distance_from distance gaps column span.start

-- where one more column meets the kept spans: at cell 0, or where it becomes nearer than the last
pub record IsStart (distance : ℕ → ℕ → ℕ) (gaps : ℕ → ℕ) (spans : List Span)
    (count column start : ℕ) : Type 0 where
  pub none : count ≡ 0 → start ≡ 0
  pub some : 0 < count → let top = span_at spans (count - 1) in
      IsCrossing distance top.column top.gap column (gaps column) start
