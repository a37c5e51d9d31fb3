-- The tile's columns are counted from its first.
use Rattle.std.proofs.Common.{arith}
use Rattle.footprint.proofs.Words.{found_in_tile}
use Rattle.footprint.proofs.row.is_struck.Goals as goal

pub returns : goal.returns
returns c = found_in_tile c.args.columns.first c.args.columns.end c.args.tile c.args.word
    c.saturating_sub.result c.has_between.result (omega arith)
    (omega (arith, c.saturating_sub.ensures)) c.has_between.ensures
