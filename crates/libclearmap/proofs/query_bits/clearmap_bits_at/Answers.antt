-- The answer is that of the map in bits, with marks of its tiles or without.
use Rattle.libclearmap.proofs.query_bits.clearmap_bits_at.Goals as goal

pub returns-in-Ok-Plain-clause-near : goal.returns-in-Ok-Plain-clause-near
returns-in-Ok-Plain-clause-near c =
    let cells = rw c.in-Ok-Plain.field-0-is at c.in-Ok-Plain.ensures.cells in
    rw (cells, c.new-setting.ensures) at c.at_in.ensures.near

pub returns-in-Ok-Tiled-clause-near : goal.returns-in-Ok-Tiled-clause-near
returns-in-Ok-Tiled-clause-near c =
    let cells = rw c.in-Ok-Tiled.field-0-is at c.in-Ok-Tiled.ensures.cells in
    rw (cells, c.new-setting.ensures) at c.at_in-in-Ok-Tiled.ensures.near
