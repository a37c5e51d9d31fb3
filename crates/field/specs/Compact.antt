-- Distances in two bytes each where all of a row's are short, otherwise in four: this project's own
-- rule.
use Rattle.std.specs.Prelude.{◌≡◌, ℕ, ◌+◌, ◌*◌, ◌/◌, ◌%◌, ◌<◌, ◌≤◌, List, length, map}
use Rattle.std.specs.Prelude.{slice_index, slice_index_or}
use Rattle.std.specs.List.{range_with_len}
use Rattle.metric.specs.declared.edge.Edge.{Edge}
use Rattle.bits.specs.Cells.{Cells}
use Rattle.field.specs.Distances.{AreAllMeasured}
use Rattle.field.specs.declared.compact_strip.CompactStrip.{CompactStrip}

-- a distance is kept as the number after it, the largest 32-bit number, which means none, as 0
abbrev pub kept_as : ℕ → ℕ
kept_as number = (number + 1) % 4294967296

-- the distance that is kept as this number
abbrev pub number_of : ℕ → ℕ
number_of kept = (kept + 4294967295) % 4294967296

-- the low half of what a distance is kept as
abbrev pub low_half : ℕ → ℕ
low_half number = kept_as number % 65536

-- the high half of what a distance is kept as
abbrev pub high_half : ℕ → ℕ
high_half number = kept_as number / 65536

-- what is kept at a place of rows of this width: the low half of the place, and the high half of
-- the place's column in the row's line of high halves
abbrev pub kept_at : ℕ → List ℕ → List ℕ → List ℕ → ℕ → ℕ
kept_at width low high starts place =
    65536 * slice_index high (slice_index starts (place / width) + place % width)
    + slice_index low place

-- the distances in rows of this width, by their low halves, the lines of high halves, and where
-- each row's line starts
abbrev pub numbers_kept : ℕ → List ℕ → List ℕ → List ℕ → List ℕ
numbers_kept width low high starts =
    map (λ place. number_of (kept_at width low high starts place)) (range_with_len 0 (length low))

-- the distances that a strip has, in rows of this width
abbrev pub numbers_in : ℕ → CompactStrip → List ℕ
numbers_in width strip = numbers_kept width strip.low.items strip.high.items strip.starts.items

-- the first line of high halves is zeros, and each row's is one of the lines
pub record AreLines (width : ℕ) (low high starts : List ℕ) : Type 0 where
  pub some : 1 ≤ width
  pub across : width ≤ 4096
  pub as_many : length low ≡ length starts * width
  pub room : width ≤ length high
  pub zeros : (x : ℕ) → x < width → slice_index high x ≡ 0
  pub each : (row : ℕ) → row < length starts → slice_index starts row + width ≤ length high
  pub few : length high ≤ 4096 * (length starts + 1)

-- a strip has the lines of its rows
abbrev pub HasLines : ℕ → CompactStrip → Type 0
HasLines width strip = AreLines width strip.low.items strip.high.items strip.starts.items

-- from this start on, the lines have the high halves of a row, and the old lines are still there
pub record HasHighLine (line old new : List ℕ) (start : ℕ) : Type 0 where
  pub within : start + length line ≤ length new
  pub more : length old ≤ length new
  pub few : length new ≤ length old + length line
  pub others : (place : ℕ) → place < length old → slice_index new place ≡ slice_index old place
  pub each : (x : ℕ) → x < length line
      → slice_index new (start + x) ≡ high_half (slice_index line x)

-- a strip keeps the distances of rows `from` to `to - 1` of a map with its edge
pub record KeepsDistances (distance : ℕ → ℕ → ℕ) (cells : Cells) (edge : Edge) (from to : ℕ)
    (strip : CompactStrip) : Type 0 where
  pub lines : HasLines cells.width strip
  pub measured : AreAllMeasured distance cells edge from to (numbers_in cells.width strip)

-- each strip has the lines of its rows
pub record AreCompact (width : ℕ) (strips : List CompactStrip) : Type 0 where
  pub each : (strip : ℕ) (other : CompactStrip) → strip < length strips
      → HasLines width (slice_index_or strips strip other)
