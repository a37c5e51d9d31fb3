-- The answers are those of the map in bytes.
use Rattle.libclearmap.proofs.many_bytes.clearmap_bytes_at_many.Goals as goal

pub returns-in-Ok-clause-nears : goal.returns-in-Ok-clause-nears
returns-in-Ok-clause-nears c =
    rw (c.in-Ok.ensures.map, c.in-Ok.ensures.bytes, c.new-setting.ensures) at
    c.at_many_in.ensures.nears
