-- A reader's seat after a load of NOW.
use Rattle.shelf.proofs.Names.{rules, ◌≡◌, ℕ, ◌<◌, arith, List, length, Some, None, ◌⊎◌, newest}
use Rattle.shelf.proofs.Names.{Base, place_told, version_told, slot_of, story, places_are}
use Rattle.shelf.proofs.Names.{slot-within, IsTidy-legal, StoreEntry, ReaderView, entries}
use Rattle.shelf.proofs.Names.{as_reader, loaded, newest_slot}
use Rattle.shelf.specs.Seats.{ReaderSays}
use Rattle.events.specs.Steps.{next_hold}
use Rattle.events.specs.Words.{slot_told}
use Rattle.events.proofs.invariants.SoundReader.{now_tells}
use Rattle.shelf.proofs.logs.LogParts.{length-entries}
use Rattle.shelf.specs.Steps.{Sees}

-- NOW tells of the log that a reader has then seen its length, its newest version, and that
-- version's slot
pub now_says : (z : Base) (x : ReaderView) (word : ℕ) (log : List StoreEntry) → Sees z x word log
    → (place_told word ≡ length log) × (version_told word ≡ newest (story z (entries log)))
    × (slot_told word ≡ newest_slot z log)
unfolding slot_of
now_says z x word log sees =
    let tells = now_tells z (entries log) sees.ready sees.legal in
    rw (sees.now, ← length-entries log, ← places_are z (entries log))
    (tells.place, tells.version, tells.slot)

-- the slot that NOW tells is one of the store's
pub slot_in : (z : Base) (x : ReaderView) (word : ℕ) (log : List StoreEntry) → Sees z x word log
    → slot_told word < z.setting.versions
slot_in z x word log sees =
    let slots = (IsTidy-legal z (entries log) sees.ready sees.legal).slots in
    let within = slot-within z (story z (entries log)) slots
    (newest (story z (entries log))) slots.newest_in in
    let is = (now_says z x word log sees).2 in
    omega arith

-- after a load of NOW, what a reader's seat keeps next to its view is what the view says
pub says_loaded : (z : Base) (x y : ReaderView) (number made version word v : ℕ)
    (log : List StoreEntry)
    → ReaderSays z x number made version → Sees z x word log → v ≡ version_told word
    → y ≡ loaded z log x
    → ReaderSays z y number made v
says_loaded z x y number made version word v log says sees told is =
    rw is (search (rules, now_says))

-- a reader that holds, or has announced nothing, holds after a load what it held
pub hold_stays : (x : ReaderView) (n : ℕ) → (x.announced ≡ None) ⊎ ((v : ℕ) × (x.holds ≡ Some v))
    → next_hold (as_reader x) n ≡ x.holds
hold_stays x n either = search rules
