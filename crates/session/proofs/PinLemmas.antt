-- What a session's seat is once it has pinned or learned, and that a pin stays.
use Rattle.std.proofs.Common.{◌≡◌, ℕ, ◌<◌, List, refl, ap, sym, subst, ◌∙◌, arith}
use Rattle.std.specs.Int.{bit_at}
use Rattle.std.specs.Prelude.{Option, Some, None, ◌⊎◌}
use mathlib.Core.Logic.{inl}
use mathlib.Core.List.{IsPrefix}
use Rattle.metric.specs.declared.edge.Edge.{Edge}
use Rattle.bits.specs.Cells.{Cells, IsBitmap}
use Rattle.bits.specs.Tiles.{tiles_down}
use Rattle.events.specs.declared.command.Entry.{Entry}
use Rattle.events.specs.declared.kept.Seen.{Seen}
use Rattle.events.specs.declared.kept.Seen.TheVariants.{From, Exact}
use Rattle.events.specs.Story.{newest}
use Rattle.events.specs.Words.{Base, slot_of}
use Rattle.events.specs.Views.{Reader, story}
use Rattle.events.specs.Views as core
use Rattle.events.specs.Steps.{next_hold, to_confirm}
use Rattle.events.specs.Legal.{IsLegal}
use Rattle.events.specs.Tidy.{IsReady, IsOfMap}
use Rattle.events.proofs.logs.LogLemmas.{newest-beginning, bitmap-beginning, slot-beginning}
use Rattle.events.proofs.invariants.TidyLog.{IsTidy-legal}
use Rattle.shelf.specs.declared.store_entry.StoreEntry.{StoreEntry}
use Rattle.shelf.specs.Store.{StoreId}
use Rattle.shelf.proofs.logs.LogParts.{prefix-entries}
use Rattle.shelf.specs.Roles.{ReaderView, entries, as_reader}
use Rattle.shelf.specs.Steps.{announcing, confirming, loaded, newest_slot}
use Rattle.shelf.proofs.seats.ReaderSeats.{hold_stays}
use Rattle.copies.specs.Copies.{HasReadBands}
use Rattle.copies.proofs.BandCopies.{nothing_read}
use Rattle.session.specs.Sessions.{PinView, IsPin, bitmap_pinned}

-- a load by a seat that holds, or has announced nothing, changes what it has seen alone
pub seen_alone : (z : Base) (x y : ReaderView) → (x.announced ≡ None)
    ⊎ ((v : ℕ) × (x.holds ≡ Some v)) → y ≡ loaded z y.seen x → y ≡ record x { seen = y.seen }
seen_alone z x y steady is =
    is ∙ ap (λ (h : Option ℕ). record x { seen = y.seen; holds = h })
    (hold_stays x (newest (story z (entries y.seen))) steady)

-- a load by a reader that has announced and holds nothing gives it the hold
takes_hold : (announced : Option Seen) (holds : Option ℕ) (seen : List Entry) (n : ℕ) (o : Seen)
    → announced ≡ Some o → holds ≡ None
    → next_hold record { seen = seen; announced = announced; holds = holds } n ≡ Some n
takes_hold announced holds seen n o some none = rw (some, none) refl

-- a seat that loads NOW, announces and loads NOW again holds the newest version that it then has
-- seen
taken_seat : (z : Base) (x a b d : ReaderView) → x.announced ≡ None → x.holds ≡ None
    → a ≡ loaded z a.seen x → b ≡ announcing z a → d ≡ loaded z d.seen b
    → d ≡ record x {
      seen = d.seen;
      announced = Some (From (core.newest_seen z (as_reader a)));
      holds = Some (newest (story z (entries d.seen)));
    }
taken_seat z x a b d quiet free first told last =
    let n = newest (story z (entries d.seen)) in
    let o : Seen = From (core.newest_seen z (as_reader a)) in
    let a_is = seen_alone z x a (inl quiet) first in
    let none : a.holds ≡ None = ap (λ (q : ReaderView). q.holds) a_is ∙ free in
    last
    ∙ (ap (loaded z d.seen) told
    ∙ (ap (λ (h : Option ℕ). record a { seen = d.seen; announced = Some o; holds = h })
    (takes_hold (Some o) a.holds (entries a.seen) n o refl none)
    ∙ ap (λ (q : ℕ × ℕ). record {
      number = q.0;
      seen = d.seen;
      made = q.1;
      announced = Some o;
      holds = Some n;
    })
    (λ i. (ap (λ (q : ReaderView). q.number) a_is i, ap (λ (q : ReaderView). q.made) a_is i))))

-- a seat that has loaded NOW, announced and loaded NOW again may announce the newest version alone
pub may_confirm : (z : Base) (x a b d : ReaderView) (version : ℕ) → x.announced ≡ None
    → x.holds ≡ None → a ≡ loaded z a.seen x → b ≡ announcing z a → d ≡ loaded z d.seen b
    → version ≡ newest (story z (entries d.seen)) → to_confirm d.announced d.holds ≡ Some version
may_confirm z x a b d version quiet free first told last is =
    ap (λ (q : ReaderView). to_confirm q.announced q.holds)
    (taken_seat z x a b d quiet free first told last) ∙ ap (λ (n : ℕ). Some n) (sym is)

-- a seat that loads, announces, loads again and confirms holds the newest version, and has
-- announced it alone
pinned_seat : (z : Base) (x a b d y : ReaderView) (version : ℕ) → x.announced ≡ None
    → x.holds ≡ None → a ≡ loaded z a.seen x → b ≡ announcing z a → d ≡ loaded z d.seen b
    → version ≡ newest (story z (entries d.seen)) → y ≡ confirming version d
    → y ≡ record x { seen = d.seen; announced = Some (Exact version); holds = Some version }
pinned_seat z x a b d y version quiet free first told last is confirmed =
    confirmed ∙ (ap (confirming version) (taken_seat z x a b d quiet free first told last)
    ∙ ap (λ (n : ℕ). record x { seen = d.seen; announced = Some (Exact version); holds = Some n })
    (sym is))

-- the bitmap of a pin stays where its session sees more of the log
pub bitmap_stays : (store : StoreId) (p : PinView) (y : ReaderView) (slot : ℕ) (bitmap : Cells)
    (unread : ℕ) → IsPin store p slot bitmap unread → IsPrefix p.seat.seen y.seen
    → bitmap_pinned store record { seat = y; version = p.version } ≡ bitmap_pinned store p
bitmap_stays store p y slot bitmap unread pin began =
    let published = pin.published in
    bitmap-beginning store.base (entries p.seat.seen) (entries y.seen)
    (prefix-entries p.seat.seen y.seen began) p.version published

-- a pin stays where its session sees more of the log: it holds the same version, which has the same
-- bitmap
pub pin_stays : (store : StoreId) (p : PinView) (y : ReaderView) (slot : ℕ) (bitmap : Cells)
    (unread : ℕ) → IsPin store p slot bitmap unread → IsPrefix p.seat.seen y.seen
    → y.announced ≡ p.seat.announced → y.holds ≡ p.seat.holds
    → IsPin store record { seat = y; version = p.version } slot bitmap unread
pin_stays store p y slot bitmap unread pin began announced holds =
    let z = store.base in
    let begins = prefix-entries p.seat.seen y.seen began in
    let grown = newest-beginning z (entries p.seat.seen) (entries y.seen) begins in
    let published = pin.published in
    let same = sym (bitmap_stays store p y slot bitmap unread pin began) in
    let copying = pin.copying in
    record {
      announced = announced ∙ pin.announced;
      published = omega arith;
      ready = pin.ready;
      copying = record {
        held = holds ∙ copying.held;
        slot_is = record {
          slot_is = copying.slot_is.slot_is
              ∙ sym (slot-beginning z (entries p.seat.seen)
              (entries y.seen) begins p.version published);
          below = copying.slot_is.below;
        };
        of_map = subst (IsOfMap z) same copying.of_map;
        bitmap_is = copying.bitmap_is;
        width_is = copying.width_is;
        height_is = copying.height_is;
        read = subst (λ (cells : Cells). HasReadBands bitmap cells unread) same copying.read;
      };
    }

-- a session that has loaded, announced, loaded again and confirmed is a pin of the newest version,
-- with room for its bitmap
pub pin_made : (store : StoreId) (x a b d y : ReaderView) (version slot : ℕ) (bitmap : Cells)
    (unread : ℕ) → IsReady store.base → x.announced ≡ None → x.holds ≡ None
    → a ≡ loaded store.base a.seen x → b ≡ announcing store.base a
    → d ≡ loaded store.base d.seen b → version ≡ newest (story store.base (entries d.seen))
    → y ≡ confirming version d → slot ≡ newest_slot store.base d.seen
    → slot < store.base.setting.versions
    → IsLegal store.base.setting store.base.opening (entries d.seen)
    → IsBitmap bitmap → bitmap.width ≡ store.base.opening.width
    → bitmap.height ≡ store.base.opening.height
    → ((k : ℕ) → k < tiles_down bitmap.height → bit_at unread k ≡ 1)
    → IsPin store record { seat = y; version = version } slot bitmap unread
pin_made store x a b d y version slot bitmap unread ready quiet free first told last is confirmed
    slot_is below legal bitmap_is width height all =
    let z = store.base in
    let y_is = pinned_seat z x a b d y version quiet free first told last is confirmed in
    let seen : d.seen ≡ y.seen = sym (ap (λ (q : ReaderView). q.seen) confirmed) in
    let newest_is : version ≡ newest (story z (entries y.seen)) = is
    ∙ ap (λ (l : List StoreEntry). newest (story z (entries l))) seen in
    let of_map : IsOfMap z (bitmap_pinned store record { seat = y; version = version }) =
    (IsTidy-legal z (entries y.seen) ready
    (subst (λ (l : List StoreEntry). IsLegal z.setting z.opening (entries l)) seen
    legal)).published version (omega arith) in
    record {
      announced = ap (λ (q : ReaderView). q.announced) y_is;
      published = omega arith;
      ready = ready;
      copying = record {
        held = ap (λ (q : ReaderView). q.holds) y_is;
        slot_is = record {
          slot_is = slot_is
              ∙ (ap (λ (l : List StoreEntry). newest_slot z l) seen
              ∙ ap (λ (v : ℕ). slot_of z (story z (entries y.seen)) v) (sym newest_is));
          below = below;
        };
        of_map = of_map;
        bitmap_is = bitmap_is;
        width_is = width;
        height_is = height;
        read = nothing_read bitmap _ unread (height ∙ sym of_map.height_is) all;
      };
    }

-- what is answered of a bitmap and its border is answered of an equal bitmap and an equal border
pub asked_so : (P : Cells → Edge → Type 0) (cells held : Cells) (edge own : Edge) → cells ≡ held
    → edge ≡ own → P cells edge → P held own
asked_so P cells held edge own same_cells same_edge answered =
    subst (λ (e : Edge). P held e) same_edge (subst (λ (b : Cells). P b edge) same_cells answered)
