-- The answer is that of the map in bytes.
use Rattle.libclearmap.proofs.query_bytes.find_bytes.Goals as goal

pub returns-in-Ok-clause-found : goal.returns-in-Ok-clause-found
returns-in-Ok-clause-found c =
    rw (c.in-Ok.ensures.map, c.in-Ok.ensures.bytes, c.new-setting.ensures) at
    c.find_in.ensures.found
