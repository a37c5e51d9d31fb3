-- The answer is that of the map in bits, with marks of its tiles or without.
use Rattle.libclearmap.proofs.query_bits.find_bits.Goals as goal

pub returns-in-Ok-Plain-clause-found : goal.returns-in-Ok-Plain-clause-found
returns-in-Ok-Plain-clause-found c =
    let cells = rw c.in-Ok-Plain.field-0-is at c.in-Ok-Plain.ensures.cells in
    rw (cells, c.new-setting.ensures) at c.find_in.ensures.found

pub returns-in-Ok-Tiled-clause-found : goal.returns-in-Ok-Tiled-clause-found
returns-in-Ok-Tiled-clause-found c =
    let cells = rw c.in-Ok-Tiled.field-0-is at c.in-Ok-Tiled.ensures.cells in
    rw (cells, c.new-setting.ensures) at c.find_in-in-Ok-Tiled.ensures.found
