-- The metric is the one that was chosen.
use Rattle.libclearmap.proofs.search.find_by.Goals as goal

pub returns-in-Euclid2-clause-found : goal.returns-in-Euclid2-clause-found
returns-in-Euclid2-clause-found g c = rw c.in-Euclid2.is c.find.ensures.found

pub returns-in-City-clause-found : goal.returns-in-City-clause-found
returns-in-City-clause-found g c = rw c.in-City.is c.find-in-City.ensures.found

pub returns-in-Chess-clause-found : goal.returns-in-Chess-clause-found
returns-in-Chess-clause-found g c = rw c.in-Chess.is c.find-in-Chess.ensures.found
