-- A band keeps its bit if none of its tiles lacks a mark.
use Rattle.libclearmap.proofs.Names.{arith, cases_eq, cases_lt}
use Rattle.libclearmap.proofs.marks.blank_bands.Goals as goal

pub bands-preserved : goal.bands-preserved
bands-preserved c = record {
  some = λ band tile low within zero.
      let bit = c.unmarked.ensures.some tile in
      let before = c.bands.invariant.some band tile in
      grind (arith, cases_lt band c.bands.band, c.without-bands.ensures.marked tile);
  none = λ band few marks. grind (arith, cases_eq band c.bands.band);
}
