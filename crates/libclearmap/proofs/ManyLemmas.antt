-- What a path of one cell tells of this cell.
use Rattle.libclearmap.proofs.Names.{◌≡◌, ℕ, ◌+◌, ◌<◌, true, false, List, get_or, set, inl, inr}
use Rattle.libclearmap.proofs.Names.{length, arith, cases_lt, get_or-set_same, get_or-set_other}
use Rattle.std.specs.Prelude.{ℤ, [], ◌∷◌, Bool, not, Option, None, Some, is_some}
use Rattle.std.specs.Int.{from_bool}
use Rattle.metric.specs.declared.cell.Cell.{Cell}
use Rattle.metric.specs.declared.near.Near.{Near}
use Rattle.clearance.specs.Answers.{IsClearOf}
use Rattle.clearance.specs.Firsts.{cell_of_list}
use Rattle.clearance.specs.Paths.{cells_of_path}
use Rattle.libclearmap.specs.Many.{SaysClear}

-- the byte of a path of one cell says whether the cell is clear
pub one_says : (distance : ℕ → ℕ → ℕ) (Obstacle : ℤ → ℤ → Type 0) (cell : Cell) (d byte : ℕ)
    (found : Option (Cell × Near)) (none : Bool)
    → IsClearOf distance Obstacle (cells_of_path (cell ∷ [])) d found → is_some found ≡ not none
    → byte ≡ from_bool none → SaysClear distance Obstacle cell d byte
one_says distance Obstacle cell d byte None true clear is byte_is =
    inl (
      byte_is,
      λ near nearer.
          let far = clear 0 near cell (omega arith) nearer.near_is in
          let below = nearer.nearer in omega arith,
    )
one_says distance Obstacle cell d byte None false clear is byte_is = absurd cc
one_says distance Obstacle cell d byte (Some found) true first is byte_is = absurd cc
one_says distance Obstacle cell d byte (Some found) false first is byte_is =
    let within = first.within in
    let here : first.place ≡ 0 = omega arith in
    let same : cell ≡ found.0 = rw here at first.cell_is in
    inr (
      byte_is,
      (
        found.1,
        record {
          near_is = rw same first.near_is;
          nearer = first.below;
        },
      ),
    )

-- what holds of each cell's answer so far holds of one more
pub each_more : {T : Type 0} (Is : Cell → T → Type 0) (asked : List Cell) (values : List T)
    (nothing value : T) (i : ℕ) → i < length values
    → ((k : ℕ) → k < i → Is (cell_of_list asked k) (get_or values k nothing))
    → Is (cell_of_list asked i) value
    → (k : ℕ) → k < i + 1 → Is (cell_of_list asked k) (get_or (set values i value) k nothing)
each_more Is asked values nothing value i within before here k below = elim (cases_lt k i) [
  | inl above ↦ rw (get_or-set_other values i k value nothing (omega arith)) (before k above)
  | inr beyond ↦
      let same : k ≡ i = omega arith in
      rw (same, get_or-set_same values i value nothing within) here
]
