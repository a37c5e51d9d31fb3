-- What is read before a raster stands with any bytes after it.
use Rattle.pbm.proofs.Prefixes.{Stands-header, header-within}
use Rattle.pbm.proofs.taking.header_in.Goals as goal

pub overflow_sub-result : goal.overflow_sub-result
overflow_sub-result c =
    header-within c.args.bytes.now _ _ _ _ c.in_ok-header.ensures

pub returns-clause-found : goal.returns-clause-found
returns-clause-found c =
    Stands-header c.args.bytes.now _ _ _ _ c.in_ok-header.ensures
