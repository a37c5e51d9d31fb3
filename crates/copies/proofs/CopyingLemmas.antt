-- What a pin's copy of its version says of the version.
use Rattle.std.proofs.Common.{◌≡◌, ℕ, ◌/◌, ◌^◌, ◌<◌, ◌≤◌, List, get_or, refl, ap, sym, ◌∙◌}
use Rattle.std.proofs.Common.{arith}
use Rattle.std.specs.Int.{bit_at}
use Rattle.bits.specs.Cells.{Cells}
use Rattle.bits.specs.Tiles.{tiles_down}
use Rattle.bits.specs.Words.{words_across, IsRowOf}
use Rattle.clearance.specs.Rows.{words_of_row}
use Rattle.clearance.proofs.RowWords.{row_word_read}
use Rattle.shelf.specs.Store.{StoreId}
use Rattle.shelf.specs.Roles.{ReaderView}
use Rattle.copies.specs.Copies.{bitmap_seen, IsCopying}
use Rattle.copies.proofs.BandCopies.{row_copied, all_copied, none_unread}

module _ (store : StoreId) (x : ReaderView) (version slot : ℕ) (bitmap : Cells) (unread : ℕ) where
  -- the copy has the version's width
  same_width : IsCopying store x version slot bitmap unread
      → bitmap.width ≡ (bitmap_seen store x version).width
  same_width so = so.width_is ∙ sym so.of_map.width_is

  -- a row of a band that was read has the version's words
  same_row : (y : ℕ) → IsCopying store x version slot bitmap unread → bit_at unread (y / 64) ≡ 0
      → y < (bitmap_seen store x version).height
      → words_of_row bitmap y ≡ words_of_row (bitmap_seen store x version) y
  same_row y so clear row =
      row_copied bitmap (bitmap_seen store x version) unread y so.bitmap_is so.of_map.bitmap
      (same_width so) so.read clear row

  -- a word of a row of a band that was read is the version's
  pub word_copied : (y k : ℕ) (words : List ℕ) → IsCopying store x version slot bitmap unread
      → bit_at unread (y / 64) ≡ 0 → y < (bitmap_seen store x version).height
      → k < words_across (bitmap_seen store x version).width → IsRowOf bitmap y words
      → get_or words k 0 < 2 ^ 64
      → get_or words k 0 ≡ get_or (words_of_row (bitmap_seen store x version) y) k 0
  word_copied y k words so clear row within are fits =
      let width = same_width so in
      row_word_read bitmap y k (get_or words k 0) words are
      (let column : k < words_across bitmap.width = omega arith in column) fits refl
      ∙ ap (λ (ws : List ℕ). get_or ws k 0) (same_row y so clear row)

  -- once each band is read the bitmap is the version
  pub bands_copied_all : (down : ℕ) → IsCopying store x version slot bitmap unread
      → ((k : ℕ) → k < down → bit_at unread k ≡ 0) → tiles_down bitmap.height ≤ down
      → bitmap ≡ bitmap_seen store x version
  bands_copied_all down so clear end =
      let height = so.height_is ∙ sym so.of_map.height_is in
      all_copied bitmap (bitmap_seen store x version) unread so.bitmap_is so.of_map.bitmap
      (same_width so) height so.read (λ y row. clear (y / 64) (omega arith))

  -- where no band is left the bitmap is the version
  pub whole_copied : IsCopying store x version slot bitmap unread → unread ≡ 0
      → bitmap ≡ bitmap_seen store x version
  whole_copied so none =
      bands_copied_all (tiles_down bitmap.height) so (λ k within. none_unread unread none k)
      (omega arith)
