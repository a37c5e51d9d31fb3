-- The least distance in the rectangle of these corners is what the search finds.
use Rattle.libclearmap.proofs.search.find.Goals as goal

pub returns-else-height-y1-clause-found : goal.returns-else-height-y1-clause-found
returns-else-height-y1-clause-found g c =
    rw (c.in-Least.is, ← c.in-Least.field-0-is) c.least_in.ensures.least
