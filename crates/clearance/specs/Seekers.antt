-- What a search keeps of the obstacles that it meets, and which of those left matter: this
-- project's own rule.
use Rattle.std.specs.Prelude.{◌≡◌, ℕ, ◌+◌, ◌-◌, ◌/◌, ◌%◌, ◌<◌, ◌≤◌, ◌⊎◌, Option, Some, None}
use Rattle.std.specs.Prelude.{IfSome}
use Rattle.std.specs.Option.{ForSome}
use Rattle.std.specs.Int.{bit_at}
use Rattle.metric.specs.Cellwise.{IsAtMost}
use Rattle.metric.specs.declared.cell.Cell.{Cell}
use Rattle.metric.specs.declared.rect.Rect.{Rect}
use Rattle.bits.specs.Cells.{Cells, IsBitmap, IsObstacle}
use Rattle.bits.specs.Words.{words_across}
use Rattle.clearance.specs.Search.{IsReachedBy, column_gap, rect_distance, row_gap}
use Rattle.clearance.specs.Frames.{key_found}
use Rattle.clearance.specs.Nearest.{limit_with}
use Rattle.clearance.specs.Rows.{IsFar}
use Rattle.clearance.specs.Spots.{IsInBand, IsInTile, IsInTileRows, IsInWord, IsNearSpot, key_from}
use Rattle.clearance.specs.declared.found.Found.{Found}
use Rattle.clearance.specs.declared.near_tile.Place.{Place}
use Rattle.clearance.specs.declared.outwards.Bands.{Bands}
use Rattle.clearance.specs.declared.part.Part.{Part}

-- cell (a, b) is at least this far from a rectangle, in a column from x on, and in a row at least
-- `gap` rows outside
pub record IsBeyond (distance : ℕ → ℕ → ℕ) (rect : Rect) (dist x gap a b : ℕ) : Type 0 where
  pub column : a < 4096
  pub row : b < 4096
  pub far : dist ≤ rect_distance distance rect a b
  pub right : x ≤ a
  pub away : gap ≤ row_gap rect b

-- a rectangle is within another
pub record IsPartOf (whole part : Rect) : Type 0 where
  pub left : whole.x0 ≤ part.x0
  pub top : whole.y0 ≤ part.y0
  pub right : part.x1 ≤ whole.x1
  pub bottom : part.y1 ≤ whole.y1

-- the bits of a word, as those of a tile in row y, are obstacles of the map
abbrev pub AreObstacles : Cells → ℕ → ℕ → ℕ → Type 0
AreObstacles cells tile y word =
    (a b : ℕ) → IsInWord tile y word a b → IsObstacle cells a b

-- what a seeker is after: the rectangle from which it looks (all that is left of what it was), those
-- from which it may count how many rows others lie outside, the cell at which it begins, which
-- obstacles change nothing of what it keeps, and that this, after a search that started as the first
-- seeker, comes from obstacles of the map
pub record Aim (S : Type 0) : Type 1 where
  pub from : S → Rect
  pub counts : S → Rect → Type 0
  pub begins : S → Cell
  pub settles : S → ℕ → ℕ → Type 0
  pub keeps : Cells → S → S → Type 0

-- a seeker after it has met some obstacles of a map: it looks from a part of what it looked from,
-- what was settled stays so, and what is kept is right if it was
pub record IsOnward {S : Type 0} (aim : Aim S) (cells : Cells) (before after : S) : Type 0 where
  pub rect : IsPartOf (aim.from before) (aim.from after)
  pub counted : (rect : Rect) → aim.counts before rect → aim.counts after rect
  pub start : aim.begins after ≡ aim.begins before
  pub settled : (a b : ℕ) → aim.settles before a b → aim.settles after a b
  pub kept : (first : S) → aim.keeps cells first before → aim.keeps cells first after

-- a seeker looks from a part of a rectangle, and may count rows from that
pub record IsSeenFrom {S : Type 0} (aim : Aim S) (seeker : S) (rect : Rect) : Type 0 where
  pub within : IsPartOf rect (aim.from seeker)
  pub counted : aim.counts seeker rect

-- row y lies this many rows outside a rectangle from which a seeker may count them
pub record IsGap {S : Type 0} (counts : S → Rect → Type 0) (seeker : S) (y gap : ℕ) : Type 0 where
  pub rect : Rect
  pub counted : counts seeker rect
  pub gap_is : gap ≡ row_gap rect y

-- a part of a tile is a part of a map
pub record IsPartIn (cells : Cells) (part : Part) : Type 0 where
  pub bitmap : IsBitmap cells
  pub tile : part.tile < words_across cells.width
  pub few : part.tile < 64
  pub end : part.end ≤ cells.height
  pub last : part.end ≤ 4096

-- obstacle (a, b) is in a part of a tile
abbrev pub IsInPart : Cells → Part → ℕ → ℕ → Type 0
IsInPart cells part a b = IsInTileRows cells part.tile part.first part.end a b

-- the obstacles of a part of a tile lie at least its columns outside a rectangle, and none is left
-- of its column
pub record AreOutside (cells : Cells) (part : Part) (rect : Rect) : Type 0 where
  pub few : part.columns ≤ 4096
  pub apart : (a b : ℕ) → IsInPart cells part a b
      → (part.columns ≤ column_gap rect a) × (part.x ≤ a)

-- a seeker looks at a part of a tile of a map from a rectangle
pub record IsSeenPart {S : Type 0} (aim : Aim S) (cells : Cells) (part : Part) (seeker : S)
    (rect : Rect) : Type 0 where
  pub in_map : IsPartIn cells part
  pub outside : AreOutside cells part rect
  pub seen : IsSeenFrom aim seeker rect

-- a part of a tile has fewer rows than another
pub record IsCutTo (whole part : Part) : Type 0 where
  pub tile : part.tile ≡ whole.tile
  pub first : whole.first ≤ part.first
  pub end : part.end ≤ whole.end
  pub columns : part.columns ≡ whole.columns
  pub x : part.x ≡ whole.x

-- two parts of a tile have the same rows
pub record IsSameRows (one other : Part) : Type 0 where
  pub tile : other.tile ≡ one.tile
  pub first : other.first ≡ one.first
  pub end : other.end ≡ one.end

-- obstacles in these columns of a tile, where they are at least that many rows outside a rectangle,
-- are settled
abbrev pub AreFarColumns : ℕ → ℕ → Rect → ℕ → (ℕ → ℕ → Type 0) → Type 0
AreFarColumns tile far rect gap Settled =
    (a b : ℕ) → b < 4096 → a / 64 ≡ tile → bit_at far (a % 64) ≡ 1 → gap ≤ row_gap rect b
    → Settled a b

-- a tile of a band is this one, if there is one
abbrev pub IsPlace : Option Place → ℕ → ℕ → Type 0
IsPlace None band tile = ⊥
IsPlace (Some place) band tile = (place.band ≡ band) × (place.tile ≡ tile)

-- a tile of a band is one of a map of that many tiles across
abbrev pub IsPlaceIn : ℕ → Place → Type 0
IsPlaceIn across place = (place.band < 64) × (place.tile < across)

-- the obstacles of a tile, if there is one, are settled
abbrev pub IsPlaceMet : Cells → Option Place → (ℕ → ℕ → Type 0) → Type 0
IsPlaceMet cells but Settled =
    (band tile : ℕ) → IsPlace but band tile → (a b : ℕ) → IsInTile cells band tile a b
    → Settled a b

-- a column is in a tile or past it, seen from a start
abbrev pub IsPast : ℕ → ℕ → ℕ → Type 0
IsPast start tile a = ((start / 64 ≤ tile) × (tile ≤ a / 64))
    ⊎ ((tile < start / 64) × (a / 64 ≤ tile))

-- an obstacle of a band is in one of these tiles, or settled
abbrev pub AreTilesLeft : Cells → ℕ → ℕ → (ℕ → ℕ → Type 0) → Type 0
AreTilesLeft cells band tiles Settled =
    (a b : ℕ) → IsInBand cells band a b → (bit_at tiles (a / 64) ≡ 1) ⊎ Settled a b

-- an obstacle of a tile's word lies this many columns outside a rectangle
pub record IsColumnOf (rect : Rect) (tile word columns : ℕ) : Type 0 where
  pub a : ℕ
  pub here : a / 64 ≡ tile
  pub bit : bit_at word (a % 64) ≡ 1
  pub columns_is : column_gap rect a ≡ columns

-- a band is before the first of two bands, or not before the second
abbrev pub IsLeft : ℕ → ℕ → ℕ → Type 0
IsLeft above below band = (band < above) ⊎ (below ≤ band)

-- of the bands that are left this one is next, and the others stay
pub record IsNextBand (left : Bands) (band : ℕ) (next : Bands) : Type 0 where
  pub few : band < 64
  pub marked : next.marked ≡ left.marked
  pub above : next.above ≤ left.above
  pub below : left.below ≤ next.below
  pub last : next.below ≤ 64
  pub fewer : next.above + left.below < left.above + next.below
  pub all : (k : ℕ) → k < 64 → bit_at left.marked k ≡ 1 → IsLeft left.above left.below k
      → (k ≡ band) ⊎ IsLeft next.above next.below k

-- the bands that are left lie at least that many rows outside a rectangle
pub record AreAsFarBands (left : Bands) (rect : Rect) (gap : ℕ) : Type 0 where
  pub few : gap ≤ 4096
  pub apart : (b : ℕ) → b < 4096 → IsLeft left.above left.below (b / 64) → gap ≤ row_gap rect b

-- the least distance so far, of a search from a rectangle below a limit
pub record IsLeastKept (distance : ℕ → ℕ → ℕ) (cells : Cells) (whole : Rect) (limit : ℕ)
    (rect : Rect) (least : ℕ) : Type 0 where
  pub rect_is : rect ≡ whole
  pub within : least ≤ limit
  pub reached : least < limit → IsReachedBy distance (IsObstacle cells) whole least

-- a rectangle is one cell, and the limit is one above the distance of what is found
pub record IsOneCell (rect : Rect) (limit : ℕ) (best : Option Found) : Type 0 where
  pub column : rect.x1 ≡ rect.x0 + 1
  pub row : rect.y1 ≡ rect.y0 + 1
  pub limit_is : ForSome best (λ found. limit ≡ found.dist + 1)

-- what is found comes before equally near obstacles in columns from x on, and no fewer rows away:
-- it is left of them, or in fewer rows where those left of it are too far
abbrev pub ComesFirst : (ℕ → ℕ → ℕ) → Rect → ℕ → Option Found → ℕ → ℕ → Type 0
ComesFirst distance rect limit None x gap = ⊥
ComesFirst distance rect limit (Some found) x gap =
    (found.cell.x < x) ⊎ ((row_gap rect found.cell.y < gap)
    × ((found.cell.x ≡ x) ⊎ (limit ≤ distance (rect.x0 + 1 - found.cell.x) gap)))

-- what is found comes before obstacle (a, b); where nothing is, that is as far as the limit
abbrev pub IsBehind : (ℕ → ℕ → ℕ) → Rect → ℕ → Option Found → ℕ → ℕ → Type 0
IsBehind distance rect limit None a b = IsFar (rect_distance distance rect a b) limit
IsBehind distance rect limit (Some found) a b =
    IsAtMost (key_found rect.y0 found) (key_from distance rect a b)

-- the first obstacle so far, of a search from a rectangle below a limit
pub record IsFirstKept (distance : ℕ → ℕ → ℕ) (cells : Cells) (whole : Rect) (limit : ℕ)
    (rect : Rect) (lower : ℕ) (best : Option Found) : Type 0 where
  pub rect_is : rect ≡ whole
  pub lower_is : lower ≡ limit_with limit best
  pub near : IfSome best (λ found. IsNearSpot distance (IsObstacle cells) whole limit found)
