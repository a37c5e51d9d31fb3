-- The words that proofs speak in, from where they are defined.
pub use Rattle.bits.proofs.BandLemmas.{IsBanded-all, joined_before, joined_here}
pub use Rattle.bits.proofs.CellsLemmas.{IsBitmap-cells_where, cells_where-has, cells_where-same}
pub use Rattle.bits.proofs.CellsLemmas.{has-cells_where, has-cells_where_right, has-outside}
pub use Rattle.bits.proofs.TileLemmas.{bit_at-word_where, word_where-lt}
pub use Rattle.bits.specs.Bands.{IsBanded, IsTiled}
pub use Rattle.bits.specs.Cells.{Cells, IsBitmap, IsObstacle, IsSide, cells_where, has}
pub use Rattle.bits.specs.Stored.{cells_stored, is_stored}
pub use Rattle.bits.specs.TileWords.{is_bit}
pub use Rattle.bits.specs.Tiles.{word_where}
pub use Rattle.bits.specs.Words.{words_across}
pub use Rattle.clearance.proofs.RowWords.{IsRowOf-words, word_in_row}
pub use Rattle.clearance.specs.Rows.{IsBlankRow, words_of_row}
pub use Rattle.libclearmap.specs.Layouts.{IsBlankTile, IsShape, bands_down, cells_of_bits}
pub use Rattle.libclearmap.specs.Layouts.{cells_of_bytes, cells_of_rows, is_counted, is_marked}
pub use Rattle.libclearmap.specs.Layouts.{is_obstacle_byte, is_set, is_tile_counted, rows_end}
pub use Rattle.libclearmap.specs.declared.layout.ClearmapBits.{ClearmapBits}
pub use Rattle.std.proofs.Common.{Bool, List, ap, arith, cond, drop, false, get_or, if◌then◌else◌}
pub use Rattle.std.proofs.Common.{inl, inr, length, map, min, nat_le, nat_lt, refl, replicate, set}
pub use Rattle.std.proofs.Common.{suc, sym, take, true, w64, w8, ℕ, ◌%◌, ◌&&◌, ◌*◌, ◌+◌, ◌-◌, ◌/◌}
pub use Rattle.std.proofs.Common.{◌<◌, ◌==◌, ◌^◌, ◌∙◌, ◌≡◌, ◌≢◌, ◌≤◌, ◌⊎◌}
pub use Rattle.std.proofs.Math.Nat.{mul-le-mul_right, pow-le-pow_right}
pub use Rattle.std.proofs.lemmas.Bool.{cases_eq, cases_lt}
pub use Rattle.std.proofs.lemmas.Bool.Decides.{nat_tests}
pub use Rattle.std.proofs.lemmas.List.{get_or-drop, get_or-map, get_or-replicate, get_or-set_other}
pub use Rattle.std.proofs.lemmas.List.{get_or-set_same, get_or-take, length-drop, length-map}
pub use Rattle.std.proofs.lemmas.List.{length-replicate, length-set, length-take-le}
pub use Rattle.std.proofs.lemmas.Nat.Bits.{bit_at-lt, bit_at-zero, bit_at_and, bit_at_cat_high}
pub use Rattle.std.proofs.lemmas.Nat.Bits.{bit_at_clear_other, bit_at_clear_same, bit_at_not}
pub use Rattle.std.proofs.lemmas.Nat.Bits.{bit_at_ones, same_from_bits_below}
pub use Rattle.std.proofs.lemmas.Simd.{bit_mask_l, bitmask_splat, get_or-chunk, mask_l-mod}
pub use Rattle.std.proofs.lemmas.Simd.{tops_compared, zip2_splat_left}
pub use Rattle.std.specs.Int.{bit_at, bit_not}
pub use Rattle.std.specs.Int.Bits.{and_lt, or_zero_l}
