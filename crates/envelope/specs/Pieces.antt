-- A piece of a row: some cells, and the columns that suffice for them. This project's own rule.
use Rattle.std.specs.Prelude.{◌≡◌, ℕ, ◌-◌, ◌<◌, ◌≤◌, List, length}
use Rattle.envelope.specs.Columns.{IsAmong, IsBest, IsColumnFrom, distance_from, gap_of}
use Rattle.envelope.specs.declared.piece.Piece.{Piece}

-- the cells and the columns of a piece are those of a row, with at least one cell
pub record IsPiece (entries : List ℕ) (piece : Piece) : Type 0 where
  pub columns : piece.first ≤ piece.last
  pub inside : piece.last ≤ length entries
  pub some : piece.from < piece.end
  pub within : piece.end ≤ length entries

-- a column of a set is no farther from cell x than another column, and nearer if it is right of it
pub record IsBeaten (distance : ℕ → ℕ → ℕ) (gaps : ℕ → ℕ) (Among : ℕ → Type 0) (x other : ℕ) :
    Type 0 where
  pub by : ℕ
  pub among : Among by
  pub not_farther : distance_from distance gaps by x ≤ distance_from distance gaps other x
  pub nearer : other < by → distance_from distance gaps by x < distance_from distance gaps other x

-- for each cell of the piece each column of the row is beaten by one of the piece
abbrev pub IsEnough : (ℕ → ℕ → ℕ) → List ℕ → ℕ → Piece → Type 0
IsEnough distance entries y piece =
    (x other : ℕ) → piece.from ≤ x → x < piece.end → IsAmong entries (length entries) other
    → IsBeaten distance (gap_of entries y) (IsColumnFrom entries piece.first piece.last) x other

-- of all columns of the row the nearest to cell x
abbrev pub IsBestOfAll : (ℕ → ℕ → ℕ) → List ℕ → ℕ → ℕ → ℕ → Type 0
IsBestOfAll distance entries y x column =
    IsBest distance (gap_of entries y) (IsAmong entries (length entries)) x column

-- a column with none to its left, or the nearest to a cell no further right than the start
pub record IsLeftBound (distance : ℕ → ℕ → ℕ) (entries : List ℕ) (y start first : ℕ) : Type 0 where
  pub inside : first ≤ length entries
  pub best : (other : ℕ) → IsAmong entries (length entries) other → other < first → (cell : ℕ)
      × (cell ≤ start) × IsBestOfAll distance entries y cell first

-- the ends of a piece's cells and columns: the row's, or a cell and the column after its nearest
pub record IsRightBound (distance : ℕ → ℕ → ℕ) (entries : List ℕ) (y end last : ℕ) : Type 0 where
  pub within : end ≤ length entries
  pub whole : end ≡ length entries → last ≡ length entries
  pub best : end < length entries → (1 ≤ last) × IsBestOfAll distance entries y end (last - 1)
