-- The answers are those of the map in bits, with marks of its tiles or without.
use Rattle.libclearmap.proofs.many_bits.clearmap_bits_at_many.Goals as goal

pub returns-in-Ok-Plain-clause-nears : goal.returns-in-Ok-Plain-clause-nears
returns-in-Ok-Plain-clause-nears c =
    let cells = rw c.in-Ok-Plain.field-0-is at c.in-Ok-Plain.ensures.cells in
    rw (cells, c.new-setting.ensures) at c.at_many_in.ensures.nears

pub returns-in-Ok-Tiled-clause-nears : goal.returns-in-Ok-Tiled-clause-nears
returns-in-Ok-Tiled-clause-nears c =
    let cells = rw c.in-Ok-Tiled.field-0-is at c.in-Ok-Tiled.ensures.cells in
    rw (cells, c.new-setting.ensures) at c.at_many_in-in-Ok-Tiled.ensures.nears
