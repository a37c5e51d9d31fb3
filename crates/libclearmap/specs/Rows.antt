-- The map that rows in the caller's bits stand for: this project's own rule.
use Rattle.bits.specs.Cells.{Cells}
use Rattle.libclearmap.specs.declared.bit_rows.BitRows.{BitRows}
use Rattle.libclearmap.specs.declared.bit_rows.BitRows.TheVariants.{Plain, Tiled}
use Rattle.libclearmap.specs.Layouts.{cells_of_bits, cells_of_rows}

-- the map in these rows: where tiles have marks, they count
abbrev pub cells_of : BitRows → Cells
cells_of (Plain rows) = cells_of_rows rows.map rows.words.now
cells_of (Tiled rows) = cells_of_bits rows.plain.map rows.plain.words.now
