-- The answers are those of the map in bits, with marks of its tiles or without.
use Rattle.libclearmap.proofs.many_bits.clearmap_bits_clear_many.Goals as goal

pub returns-in-Ok-Plain-clause-clear : goal.returns-in-Ok-Plain-clause-clear
returns-in-Ok-Plain-clause-clear c =
    let cells = rw c.in-Ok-Plain.field-0-is at c.in-Ok-Plain.ensures.cells in
    rw (cells, c.new-setting.ensures) at c.clear_many_in.ensures.clear

pub returns-in-Ok-Tiled-clause-clear : goal.returns-in-Ok-Tiled-clause-clear
returns-in-Ok-Tiled-clause-clear c =
    let cells = rw c.in-Ok-Tiled.field-0-is at c.in-Ok-Tiled.ensures.cells in
    rw (cells, c.new-setting.ensures) at c.clear_many_in-in-Ok-Tiled.ensures.clear
