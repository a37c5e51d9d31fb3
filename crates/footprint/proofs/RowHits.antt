-- The obstacles of a row that a polygon meets.
use Rattle.std.proofs.Common.{◌≡◌, ◌/◌, ℕ, ◌<◌, ◌↔◌, Bool, MatchBool, inl, inr, ◌≤◌, true, false}
use Rattle.std.proofs.Common.{List, pos, arith}
use Rattle.bits.proofs.CellsLemmas.{has-outside}
use Rattle.bits.specs.Cells.{Cells, IsBitmap, IsObstacle}
use Rattle.footprint.specs.declared.corner.Corner.{Corner}
use Rattle.footprint.specs.declared.span.Stretch.{Stretch}
use Rattle.footprint.specs.Polygon.{HasHit, IsHit, IsOverlapped, PassesFrom, last_of}
use Rattle.footprint.specs.Rows.{AreOverlapped, IsStruck}
use Rattle.footprint.specs.Sides.{IsIn}
use Rattle.std.proofs.lemmas.Bool.{cases_lt}
use Rattle.std.proofs.lemmas.Bool.Decides.{nat_tests}
use Rattle.std.proofs.lemmas.Grind.{common_steps}

-- an obstacle is in the map
obstacle_inside : (cells : Cells) (x y : ℕ) → IsBitmap cells → IsObstacle cells x y
    → (x < cells.width) × (y < cells.height)
obstacle_inside cells x y bitmap obstacle = grind (arith, nat_tests, common_steps, has-outside)

-- where no obstacle of a row is in the columns of a polygon's range, it meets none
pub none_struck : (cells : Cells) (ring : List Corner) (columns : Stretch) (y : ℕ)
    → IsBitmap cells → AreOverlapped (λ c. c.x) ring cells.width columns
    → ((x : ℕ) → IsStruck cells y columns.first columns.end x → ⊥)
    → (x : ℕ) → IsHit cells ring x y → ⊥
none_struck cells ring columns y bitmap overlapped none x hit = none x (record {
  within =
      let inside = (obstacle_inside cells x y bitmap hit.obstacle).0 in
      (overlapped.on x).1 (inside, hit.meets.columns);
  obstacle = hit.obstacle;
})

-- the obstacles of a row in the columns that its sides leave too are those that it meets
pub row_struck : (cells : Cells) (ring : List Corner) (columns covered : Stretch) (y : ℕ)
    (found : Bool)
    → IsBitmap cells → AreOverlapped (λ c. c.x) ring cells.width columns
    → IsOverlapped (λ c. c.y) ring (pos y)
    → ((x : ℕ) → IsIn covered.first covered.end x
    ↔ (IsIn columns.first columns.end x × PassesFrom (last_of ring) ring (pos x) (pos y)))
    → MatchBool found ((x : ℕ) × IsStruck cells y covered.first covered.end x)
    ((x : ℕ) → IsStruck cells y covered.first covered.end x → ⊥)
    → MatchBool found ((x : ℕ) × IsHit cells ring x y) ((x : ℕ) → IsHit cells ring x y → ⊥)
row_struck cells ring columns covered y true bitmap across down on (x, struck) =
    let both = (on x).0 struck.within in (
      x,
      record {
        obstacle = struck.obstacle;
        meets = record {
          columns = ((across.on x).0 both.0).1;
          rows = down;
          sides = both.1;
        };
      },
    )
row_struck cells ring columns covered y false bitmap across down on none = λ x hit.
    let inside = (obstacle_inside cells x y bitmap hit.obstacle).0 in
    none x (record {
      within = (on x).1 ((across.on x).1 (inside, hit.meets.columns), hit.meets.sides);
      obstacle = hit.obstacle;
    })

-- the row of an obstacle that the polygon meets is one that its range overlaps
pub row_overlapped : (cells : Cells) (ring : List Corner) (lines : Stretch) (x y : ℕ)
    → IsBitmap cells → AreOverlapped (λ c. c.y) ring cells.height lines → IsHit cells ring x y
    → IsIn lines.first lines.end y
row_overlapped cells ring lines x y bitmap overlapped hit =
    (overlapped.on y).1 ((obstacle_inside cells x y bitmap hit.obstacle).1, hit.meets.rows)

-- the column of an obstacle that the polygon meets is one that its range overlaps
pub column_overlapped : (cells : Cells) (ring : List Corner) (columns : Stretch) (x y : ℕ)
    → IsBitmap cells → AreOverlapped (λ c. c.x) ring cells.width columns → IsHit cells ring x y
    → IsIn columns.first columns.end x
column_overlapped cells ring columns x y bitmap overlapped hit =
    (overlapped.on x).1 ((obstacle_inside cells x y bitmap hit.obstacle).0, hit.meets.columns)

-- an obstacle that the polygon meets in the rows of a band, of which the first ones have none
pub found_in_band : (cells : Cells) (ring : List Corner) (columns lines part : Stretch)
    (band first : ℕ) (found : Bool) → IsBitmap cells
    → AreOverlapped (λ c. c.x) ring cells.width columns
    → AreOverlapped (λ c. c.y) ring cells.height lines
    → ((y : ℕ) → IsIn part.first part.end y ↔ (IsIn lines.first lines.end y × (y / 64 ≡ band)))
    → ((x y : ℕ) → IsIn columns.first columns.end x → part.first ≤ y → y < first
    → IsObstacle cells x y → ⊥)
    → MatchBool found (HasHit cells ring)
    ((x y : ℕ) → IsIn first part.end y → IsHit cells ring x y → ⊥)
    → MatchBool found (HasHit cells ring)
    ((x y : ℕ) → y / 64 ≡ band → IsHit cells ring x y → ⊥)
found_in_band cells ring columns lines part band first true bitmap across down in_band before some =
    some
found_in_band cells ring columns lines part band first false bitmap across down in_band before none =
    λ x y here hit.
    let own = (in_band y).1 (row_overlapped cells ring lines x y bitmap down hit, here) in
    elim (cases_lt y first) [
      | inl earlier ↦
          before x y (column_overlapped cells ring columns x y bitmap across hit) own.after earlier
          hit.obstacle
      | inr later ↦ none x y (record { after = later; before = own.before }) hit
    ]
