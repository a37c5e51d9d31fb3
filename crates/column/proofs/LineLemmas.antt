-- Lines are carried from row to row, and the nearest obstacle is found between two of them.
use Rattle.std.proofs.Common.{◌≡◌, ℕ, ◌+◌, ◌-◌, ◌*◌, ◌<◌, ◌≤◌, ◌⊎◌, ◌∙◌, min, inl, inr, Bool, true}
use Rattle.std.proofs.Common.{◌≢◌, false, List, Option, Some, None, length, get_or}
use Rattle.std.proofs.Common.{arith, refl, sym}
use Rattle.std.specs.Int.{abs_diff}
use Rattle.std.proofs.lemmas.Grind.{common_steps}
use Rattle.std.proofs.lemmas.Bool.Decides.{nat_tests}
use Rattle.std.proofs.lemmas.Bool.{cases_lt, cases_eq, false≢true}
use Rattle.metric.specs.Edge.{shift}
use Rattle.metric.specs.declared.edge.Edge.{Edge}
use Rattle.bits.specs.Cells.{Cells, IsBitmap, has}
use Rattle.bits.proofs.CellsLemmas.{has-cells_where_below}
use Rattle.bits.proofs.Framing.{shift_few}
use Rattle.column.specs.Capped.{capped}
use Rattle.column.specs.Columns.{IsNearestRow, IsRowOfTable, row_of}
use Rattle.column.specs.Lines.{AreBandLines, AreLinesBehind, IsLineBefore, IsLineFrom, IsRowBefore}
use Rattle.column.specs.Lines.{IsRowFrom}
use Rattle.column.specs.Marks.{IsEntry, marked, nearer}
use Rattle.column.proofs.Places.{place_below}
use Rattle.column.proofs.Nearest.{IsRowAtMost-by, nearer_by, row_of-none, row_of-some}

-- past a free cell the lowest obstacle before a row stays
before_free : (cells : Cells) (x y : ℕ) (row : Option ℕ) → has cells x y ≡ false
    → IsRowBefore cells x y row → IsRowBefore cells x (y + 1) row
before_free cells x y None free before = grind (arith, nat_tests, common_steps)
before_free cells x y (Some row) free before = grind (arith, nat_tests, common_steps)

-- an entry of the obstacles before a row, once it is marked in that row, tells those before the
-- next row
before_marked : (cells : Cells) (x y entry : ℕ) → y < 65535 → IsRowBefore cells x y (row_of entry)
    → (black : Bool) → has cells x y ≡ black
    → IsRowBefore cells x (y + 1) (row_of (marked black y entry))
before_marked cells x y entry small before true is =
    let row : row_of y ≡ Some y = row_of-some y (λ same. omega arith) in
    rw row (is, omega arith, λ b within black. omega arith)
before_marked cells x y entry small before false is = before_free cells x y (row_of entry) is before

-- past a free cell the uppermost obstacle from a row on stays
from_free : (cells : Cells) (x y : ℕ) (row : Option ℕ) → has cells x y ≡ false
    → IsRowFrom cells x (y + 1) row → IsRowFrom cells x y row
from_free cells x y None free behind = grind (arith, nat_tests, common_steps)
from_free cells x y (Some row) free behind = grind (arith, nat_tests, common_steps)

-- an entry of the obstacles after a row, once it is marked in that row, tells those from that row
-- on
from_marked : (cells : Cells) (x y entry : ℕ) → y < 65535 → IsRowFrom cells x (y + 1) (row_of entry)
    → (black : Bool) → has cells x y ≡ black → IsRowFrom cells x y (row_of (marked black y entry))
from_marked cells x y entry small behind true is =
    let row : row_of y ≡ Some y = row_of-some y (λ same. omega arith) in
    rw row (is, omega arith, λ b within black. omega arith)
from_marked cells x y entry small behind false is = from_free cells x y (row_of entry) is behind

-- the rows of a bitmap, counted with the frame, are no mark
row_small : (edge : Edge) (cells : Cells) (y : ℕ) → IsBitmap cells → y < cells.height
    → y + shift edge < 65535
row_small edge cells y bitmap within = let few = bitmap.height_is.few in
    let least = shift_few edge in omega (arith, few, least, within)

-- the line of the obstacles before a row of the map, once that row is marked in it, is the line
-- before the next row
pub IsLineBefore-marked : (edge : Edge) (cells : Cells) (y : ℕ) (old new : List ℕ) → IsBitmap cells
    → y < cells.height → length new ≡ length old
    → ((x : ℕ) → x < cells.width
    → get_or new x 0 ≡ marked (has (capped edge cells) x (y + shift edge)) (y + shift edge)
    (get_or old x 0))
    → IsLineBefore (capped edge cells) (y + shift edge) old
    → IsLineBefore (capped edge cells) (y + 1 + shift edge) new
IsLineBefore-marked edge cells y old new bitmap within len marks line =
    let next : y + 1 + shift edge ≡ y + shift edge + 1 = omega arith in
    let small = row_small edge cells y bitmap within in
    rw next (record {
      as_many = len ∙ line.as_many;
      each = λ x column. rw (marks x column)
          (before_marked (capped edge cells) x (y + shift edge) (get_or old x 0) small
          (line.each x column) (has (capped edge cells) x (y + shift edge)) refl);
    })

-- the line of the obstacles from a row on, once the row of the map before it is marked in it, is
-- the line from that row on
pub IsLineFrom-marked : (edge : Edge) (cells : Cells) (y : ℕ) (old new : List ℕ) → IsBitmap cells
    → 0 < y → y - 1 < cells.height → length new ≡ length old
    → ((x : ℕ) → x < cells.width
    → get_or new x 0 ≡ marked (has (capped edge cells) x (y - 1 + shift edge))
    (y - 1 + shift edge) (get_or old x 0))
    → IsLineFrom (capped edge cells) (y + shift edge) old
    → IsLineFrom (capped edge cells) (y - 1 + shift edge) new
IsLineFrom-marked edge cells y old new bitmap some within len marks line =
    let next : y + shift edge ≡ y - 1 + shift edge + 1 = omega (arith, some) in
    let small = row_small edge cells (y - 1) bitmap within in
    let below : IsLineFrom (capped edge cells) (y - 1 + shift edge + 1) old = rw next at line in
    record {
      as_many = len ∙ below.as_many;
      each = λ x column. rw (marks x column)
          (from_marked (capped edge cells) x (y - 1 + shift edge) (get_or old x 0) small
          (below.each x column) (has (capped edge cells) x (y - 1 + shift edge)) refl);
    }

-- where no obstacle lies below a row, the nearest is the lowest at or above it
only_before : (cells : Cells) (x y : ℕ) (row : Option ℕ) → IsRowBefore cells x (y + 1) row
    → IsRowFrom cells x (y + 1) None → IsNearestRow cells x y row
only_before cells x y None before behind = grind (arith, nat_tests, common_steps, IsRowAtMost-by)
only_before cells x y (Some row) before behind =
    grind (arith, nat_tests, common_steps, IsRowAtMost-by)

-- where no obstacle lies at or above a row, the nearest is the uppermost below it
only_behind : (cells : Cells) (x y row : ℕ) → IsRowBefore cells x (y + 1) None
    → IsRowFrom cells x (y + 1) (Some row) → IsNearestRow cells x y (Some row)
only_behind cells x y row before behind = grind (arith, nat_tests, common_steps, IsRowAtMost-by)

-- the uppermost obstacle below a row is the nearest where it is nearer than the lowest at or above
-- the row
behind_wins : (cells : Cells) (x y above below : ℕ) → abs_diff y below < abs_diff y above
    → IsRowBefore cells x (y + 1) (Some above) → IsRowFrom cells x (y + 1) (Some below)
    → IsNearestRow cells x y (Some below)
behind_wins cells x y above below wins before behind =
    grind (arith, nat_tests, common_steps, IsRowAtMost-by)

-- the lowest obstacle at or above a row is the nearest where the uppermost below the row isn't
-- nearer
before_wins : (cells : Cells) (x y above below : ℕ) → abs_diff y above ≤ abs_diff y below
    → IsRowBefore cells x (y + 1) (Some above) → IsRowFrom cells x (y + 1) (Some below)
    → IsNearestRow cells x y (Some above)
before_wins cells x y above below wins before behind =
    grind (arith, nat_tests, common_steps, IsRowAtMost-by)

-- an obstacle of a map with its frame is in one of its rows
capped_row : (edge : Edge) (cells : Cells) (x y : ℕ) → IsBitmap cells
    → has (capped edge cells) x y ≡ true → y ≤ 4097
capped_row edge cells x y bitmap black =
    let few = bitmap.height_is.few in
    let most = shift_few edge in
    elim (cases_lt y (cells.height + 2 * shift edge)) [
      | inl inside ↦ omega (arith, inside, few, most)
      | inr outside ↦
          let free : has (capped edge cells) x y ≡ false =
          has-cells_where_below cells.width (cells.height + 2 * shift edge) _ x y outside in
          absurd (false≢true (sym free ∙ black))
    ]

-- an entry that stands for an obstacle's row, or for none
entry_of : (edge : Edge) (cells : Cells) (x entry : ℕ) → IsBitmap cells
    → (entry ≢ 65535 → has (capped edge cells) x entry ≡ true) → IsEntry entry
entry_of edge cells x entry bitmap black = elim (cases_eq entry 65535) [
  | inl none ↦ inl none
  | inr some ↦ inr (capped_row edge cells x entry bitmap (black some))
]

-- an entry of a line before a row stands for a row or for none
pub before_entry : (edge : Edge) (cells : Cells) (y x : ℕ) (line : List ℕ) → IsBitmap cells
    → IsLineBefore (capped edge cells) y line → x < cells.width → IsEntry (get_or line x 0)
before_entry edge cells y x line bitmap before column =
    entry_of edge cells x (get_or line x 0) bitmap
    (λ some. (rw (row_of-some (get_or line x 0) some) at (before.each x column)).0)

-- an entry of a line from a row on stands for a row or for none
pub from_entry : (edge : Edge) (cells : Cells) (y x : ℕ) (line : List ℕ) → IsBitmap cells
    → IsLineFrom (capped edge cells) y line → x < cells.width → IsEntry (get_or line x 0)
from_entry edge cells y x line bitmap behind column =
    entry_of edge cells x (get_or line x 0) bitmap
    (λ some. (rw (row_of-some (get_or line x 0) some) at (behind.each x column)).0)

-- the nearer one of the entry at or above a row and the entry below it is the nearest of all
nearest_between : (cells : Cells) (x y above below : ℕ) → IsRowBefore cells x (y + 1) (row_of above)
    → IsRowFrom cells x (y + 1) (row_of below)
    → IsNearestRow cells x y (row_of (nearer y above below))
nearest_between cells x y above below before behind =
    nearer_by (IsNearestRow cells x y) y above below
    (λ none. only_before cells x y (row_of above) before (rw (row_of-none below none) at behind))
    (λ some none. only_behind cells x y below (rw (row_of-none above none) at before)
    (rw (row_of-some below some) at behind))
    (λ some both less. behind_wins cells x y above below less
    (rw (row_of-some above both) at before) (rw (row_of-some below some) at behind))
    (λ some both more. before_wins cells x y above below more
    (rw (row_of-some above both) at before) (rw (row_of-some below some) at behind))

-- the nearer entries of the line at or above a row and the line below it are the row of the table
pub IsRowOfTable-between : (cells : Cells) (y : ℕ) (before behind entries : List ℕ)
    → IsLineBefore cells (y + 1) before → IsLineFrom cells (y + 1) behind
    → length entries ≡ cells.width
    → ((x : ℕ) → x < length entries
    → get_or entries x 0 ≡ nearer y (get_or before x 0) (get_or behind x 0))
    → IsRowOfTable cells y entries
IsRowOfTable-between cells y before behind entries above below across picked = record {
  as_many = across;
  each = λ x column. rw (picked x (rw across column))
      (nearest_between cells x y (get_or before x 0) (get_or behind x 0) (above.each x column)
      (below.each x column));
}

-- a band has its lines from row y on once the line below row y has been put in its place
pub AreLinesBehind-next : (cells : Cells) (edge : Edge) (first y to : ℕ) (line old new : List ℕ)
    → first ≤ y → IsLineFrom (capped edge cells) (y + 1 + shift edge) line
    → ((x : ℕ) → x < cells.width → get_or new ((y - first) * cells.width + x) 0 ≡ get_or line x 0)
    → ((k : ℕ) → (k < (y - first) * cells.width) ⊎ ((y - first) * cells.width + cells.width ≤ k)
    → get_or new k 0 ≡ get_or old k 0)
    → AreLinesBehind cells edge first (y + 1) to old → AreLinesBehind cells edge first y to new
AreLinesBehind-next cells edge first y to line old new order behind copied others lines = record {
  each = λ x b column from below. elim (cases_eq b y) [
    | inl here ↦ rw (here, copied x column) (behind.each x column)
    | inr apart ↦
        let place : (y - first) * cells.width + cells.width ≤ (b - first) * cells.width + x =
        place_below (y - first) (b - first) cells.width x (omega (arith, order, from, apart)) in
        rw (others ((b - first) * cells.width + x) (inr place))
        (lines.each x b column (omega arith) below)
  ];
}

-- a batch has the lines of its bands from one band on once the line below that band has been put in
-- its place
pub AreBandLines-next : (cells : Cells) (edge : Edge) (from to band : ℕ) (line old new : List ℕ)
    → IsLineFrom (capped edge cells) (min (from + 64 * (band + 1)) to + shift edge) line
    → ((x : ℕ) → x < cells.width → get_or new (band * cells.width + x) 0 ≡ get_or line x 0)
    → ((k : ℕ) → (k < band * cells.width) ⊎ (band * cells.width + cells.width ≤ k)
    → get_or new k 0 ≡ get_or old k 0)
    → AreBandLines cells edge from to (band + 1) old → AreBandLines cells edge from to band new
AreBandLines-next cells edge from to band line old new behind copied others lines = record {
  each = λ x b column at_least inside. elim (cases_eq b band) [
    | inl here ↦ rw (here, copied x column) (behind.each x column)
    | inr apart ↦
        let place : band * cells.width + cells.width ≤ b * cells.width + x =
        place_below band b cells.width x (omega (arith, at_least, apart)) in
        rw (others (b * cells.width + x) (inr place))
        (lines.each x b column (omega (arith, at_least, apart)) inside)
  ];
}
