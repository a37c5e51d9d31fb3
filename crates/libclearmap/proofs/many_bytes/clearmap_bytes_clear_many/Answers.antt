-- The answers are those of the map in bytes.
use Rattle.libclearmap.proofs.many_bytes.clearmap_bytes_clear_many.Goals as goal

pub returns-in-Ok-clause-clear : goal.returns-in-Ok-clause-clear
returns-in-Ok-clause-clear c =
    rw (c.in-Ok.ensures.map, c.in-Ok.ensures.bytes, c.new-setting.ensures) at
    c.clear_many_in.ensures.clear
