-- The line below each band is written, and then carried up to the band's first row.
use Rattle.std.proofs.Common.{◌≡◌, ◌+◌, ◌-◌, ◌*◌, min, arith, refl}
use Rattle.metric.specs.Edge.{shift}
use Rattle.column.specs.Capped.{capped}
use Rattle.column.specs.Lines.{AreBandLines, IsLineFrom}
use Rattle.column.proofs.LineLemmas.{AreBandLines-next}
use Rattle.column.proofs.lines.seek_bands.Goals as goal

pub bands-preserved : goal.bands-preserved
bands-preserved c =
    let batch = c.args.batch.now in
    let cells = batch.bitmap.now in
    let band = c.bands.band - 1 in
    let next : c.bands.band ≡ (c.bands.band - 1) + 1 = omega arith in
    let line : IsLineFrom (capped batch.edge cells)
    (min (batch.y0 + 64 * ((c.bands.band - 1) + 1)) batch.y1 + shift batch.edge) c.bands.line =
    rw (← next) c.bands.invariant.line in
    let lines : AreBandLines cells batch.edge batch.y0 batch.y1
    ((c.bands.band - 1) + 1) c.bands.bands = rw (← next) c.bands.invariant.bands in
    let start : c.from.result * c.width-width.result ≡ (c.bands.band - 1) * cells.width =
    rw (c.from.ensures, c.width-width.ensures.width) refl in
    let few = c.bands.invariant.few in
    let first : min (batch.y0 + 64 * (c.bands.band - 1)) batch.y1
    ≡ batch.y0 + (c.bands.band - 1) * 64 = omega arith in
    record {
      few = omega arith;
      line = rw first c.carry_up.ensures;
      bands = AreBandLines-next cells batch.edge batch.y0 batch.y1 band c.bands.line c.bands.bands
          c.put_line.new.lines line
          (rw (start, line.as_many) at c.put_line.ensures.copied)
          (rw (start, line.as_many) at c.put_line.ensures.others) lines;
    }
