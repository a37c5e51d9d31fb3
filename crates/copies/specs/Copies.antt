-- What a copy of a version has of it: this project's own rule.
use Rattle.std.specs.Prelude.{◌≡◌, ◌/◌, ◌<◌, ℕ, Bool, Some}
use Rattle.std.specs.Int.{bit_at}
use Rattle.bits.specs.Cells.{Cells, has, IsBitmap, IsInside}
use Rattle.events.specs.Story.{bitmap_of}
use Rattle.events.specs.Words.{slot_of}
use Rattle.events.specs.Views.{story}
use Rattle.events.specs.Tidy.{IsOfMap}
use Rattle.shelf.specs.Store.{StoreId}
use Rattle.shelf.specs.Roles.{ReaderView, entries}

-- the bitmap published as a version, by what a session has seen
abbrev pub bitmap_seen : StoreId → ReaderView → ℕ → Cells
bitmap_seen store seat version = bitmap_of (story store.base (entries seat.seen)) version

-- a room has the width and the height of a map, and may have a copy of that size
pub record RoomView : Type 0 where
  pub width : ℕ
  pub height : ℕ
  pub has_copy : Bool

-- a version has this slot, by what one of the store's sessions has seen
pub record HasSlot (store : StoreId) (x : ReaderView) (version slot : ℕ) : Type 0 where
  pub slot_is : slot ≡ slot_of store.base (story store.base (entries x.seen)) version
  pub below : slot < store.base.setting.versions

-- a bitmap has a version's cells in each band of 64 rows whose bit is 0
abbrev pub HasReadBands : Cells → Cells → ℕ → Type 0
HasReadBands bitmap cells unread =
    (x y : ℕ) → IsInside cells x y → bit_at unread (y / 64) ≡ 0 → has bitmap x y ≡ has cells x y

-- a seat holds a version with this slot, and a bitmap of its map's size has each band of it whose
-- bit is 0
pub record IsCopying (store : StoreId) (x : ReaderView) (version slot : ℕ) (bitmap : Cells)
    (unread : ℕ) : Type 0 where
  pub held : x.holds ≡ Some version
  pub slot_is : HasSlot store x version slot
  pub of_map : IsOfMap store.base (bitmap_seen store x version)
  pub bitmap_is : IsBitmap bitmap
  pub width_is : bitmap.width ≡ store.base.opening.width
  pub height_is : bitmap.height ≡ store.base.opening.height
  pub read : HasReadBands bitmap (bitmap_seen store x version) unread
