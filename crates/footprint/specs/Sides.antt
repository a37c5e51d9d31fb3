-- Which columns of a row a side of a polygon leaves: this project's own rule.
use Rattle.std.specs.Prelude.{◌≡◌, ℕ, ℤ, pos, negsuc, ◌+ℤ◌, ◌-ℤ◌, ◌*ℤ◌, ◌≤ℤ◌, ◌<ℤ◌, ◌<◌, ◌≤◌, List}
use Rattle.std.specs.Prelude.{slice_index_or}
use Rattle.std.specs.List.{Any}
use Rattle.footprint.specs.declared.corner.Corner.{Corner}
use Rattle.footprint.specs.Polygon.{line}

-- a line between rows of a map
pub record IsLine (y : ℤ) : Type 0 where
  pub top : negsuc 16381 ≤ℤ y
  pub bottom : y ≤ℤ pos 16382

-- a row whose two lines are lines
pub record IsRow (y : ℤ) : Type 0 where
  pub top : negsuc 16381 ≤ℤ y
  pub bottom : y ≤ℤ pos 16381

-- a factor of 31 bits and a sign
pub record IsFactor (n : ℤ) : Type 0 where
  pub low : negsuc 2147483646 ≤ℤ n
  pub high : n ≤ℤ pos 2147483647

-- column x is one from first to last
pub record IsOn (first last x : ℤ) : Type 0 where
  pub after : first ≤ℤ x
  pub before : x ≤ℤ last

-- the cells of column n overlap a range of steps
abbrev pub Overlaps : ℤ → ℤ → ℤ → Type 0
Overlaps least most n = (least <ℤ line (n +ℤ pos 1)) × (line n <ℤ most)

-- column x of a map is one from first to end - 1
pub record IsIn (first end x : ℕ) : Type 0 where
  pub after : first ≤ x
  pub before : x < end

-- how far the side from a to b leaves a row free, at the height py
abbrev pub reach_at : Corner → Corner → ℤ → ℤ
reach_at a b py = (b.x -ℤ a.x) *ℤ (py -ℤ a.y) +ℤ (b.y -ℤ a.y) *ℤ a.x

-- the same at the line of row y that leaves more
pub record IsReach (a b : Corner) (y reach : ℤ) : Type 0 where
  pub rightwards : pos 0 <ℤ (b.x -ℤ a.x) → reach ≡ reach_at a b (line (y +ℤ pos 1))
  pub leftwards : (b.x -ℤ a.x) ≤ℤ pos 0 → reach ≡ reach_at a b (line y)

-- the first corners' least and greatest number, as their x: each is reached by a corner of the ring
pub record IsRange (number : Corner → ℤ) (ring : List Corner) (count : ℕ) (least most : ℤ) :
    Type 0 where
  pub from : (k : ℕ) (d : Corner) → k < count → least ≤ℤ number (slice_index_or ring k d)
  pub to : (k : ℕ) (d : Corner) → k < count → number (slice_index_or ring k d) ≤ℤ most
  pub least_is : Any (λ c. number c ≡ least) ring
  pub most_is : Any (λ c. number c ≡ most) ring
