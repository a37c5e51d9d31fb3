-- Each cell of the band is hidden by other means.
use Rattle.libclearmap.proofs.Names.{refl}
use Rattle.libclearmap.proofs.PaintLemmas.{band_shown}
use Rattle.libclearmap.proofs.shown.show_band.Goals as goal

pub returns-then-has_bit-clause-same : goal.returns-then-has_bit-clause-same
returns-then-has_bit-clause-same c =
    let hidden = c.hide_band.ensures in
    band_shown c.args.map.now _ c.args.words.now c.hide_band.new.words c.args.band
    (record { width_same = refl; height_same = refl; stride_same = refl; tiles_same = refl })
    c.requires.right hidden.len (c.if-has_bit.ensures.0 refl) c.without_bit-map.ensures.kept
    hidden.none hidden.others hidden.unused
