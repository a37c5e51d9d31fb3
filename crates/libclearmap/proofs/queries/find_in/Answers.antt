-- What is kept is what was found.
use Rattle.libclearmap.proofs.queries.find_in.Goals as goal

pub returns-then-setting-eq-DONE-clause-found : goal.returns-then-setting-eq-DONE-clause-found
returns-then-setting-eq-DONE-clause-found g c = λ done.
    let found = rw (c.kind_of-kind.ensures, c.edge_of-edge.ensures) at c.in-Ok.ensures.found in
    rw (c.found_of.ensures) found
