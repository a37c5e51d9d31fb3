-- The row's span is written.
use Rattle.libclearmap.proofs.Names.{◌≡◌, ◌*◌, refl}
use Rattle.libclearmap.proofs.PaintLemmas.{right_same, span_cells, span_unused}
use Rattle.libclearmap.proofs.paint.write_row.Goals as goal

pub returns : goal.returns
returns c =
    let map = c.args.map.now in
    let old = c.args.words.now in
    let new = c.write_span.new.words in
    let start : c.from.result * map.stride ≡ c.args.y * map.stride = rw c.from.ensures refl in
    let inside = rw start at c.write_span.ensures.inside in
    let outside = rw start at c.write_span.ensures.outside in
    let others = rw start at c.write_span.ensures.others in
    record {
      alike = record {
        width_same = refl;
        height_same = refl;
        stride_same = refl;
        tiles_same = refl;
      };
      right = right_same map old new c.requires.right c.write_span.ensures.len;
      cells_are = span_cells map old new c.args.y c.args.x0 c.args.x1 c.args.value c.requires.right
          c.requires.row c.requires.columns inside outside others c.requires.shown;
      unused = span_unused map old new c.args.y c.args.x0 c.args.x1 c.args.value c.requires.right
          c.requires.row c.requires.columns inside outside others;
    }
