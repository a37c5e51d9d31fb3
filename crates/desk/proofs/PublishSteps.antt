-- What is held is what a publish stores, tile by tile.
use Rattle.desk.proofs.Names.{◌≡◌, ℕ, ◌+◌, ◌*◌, ◌<◌, List, [], length, take, get_or, refl, ap, sym}
use Rattle.desk.proofs.Names.{◌∙◌, arith, Option, Some, None, length-map, take_all, Cells, Publish}
use Rattle.desk.proofs.Names.{Reply, Kept, first_free, newest, own_list, mapped, directory_of, Base}
use Rattle.desk.proofs.Names.{tiles, next_slot, story, blocks, draft, own_blocks, newest_blocks}
use Rattle.desk.proofs.Names.{block_if, StoreId, KeeperView, entries, writing, one_own, IsOwn}
use Rattle.desk.proofs.Names.{steps_before, the_reply, own_more, is_own, Holding, IsToldByLog, Does}
use Rattle.desk.proofs.Names.{IsInHand, IsWorked}
use Rattle.bits.specs.TileWords.{tile_words}
use Rattle.desk.proofs.HoldLemmas.{tidy_told}
use Rattle.events.proofs.shared_words.PublishWords.{own_few}

-- the draft has a place of its own for each position
pub own_long : (z : Base) (k : KeeperView) (h : Holding) → IsToldByLog z (entries k.log) h
    → length h.grid.own ≡ tiles z
own_long z k h told =
    grind (arith, length-map, tidy_told z (entries k.log) h told)

-- a tile that the draft has of its own is the next one of a publish
pub next_tile : (z : Base) (k : KeeperView) (h : Holding) (by index p block n : ℕ) (words : List ℕ)
    → IsToldByLog z (entries k.log) h → k ≡ writing k by n
    → index ≡ length (own_list (take p (blocks z (entries k.log)).own))
    → get_or (own_blocks h.grid) p None ≡ Some block → words ≡ tile_words (draft h.grid) p
    → (q : ℕ) × IsOwn z k index block q × (words ≡ tile_words (story z (entries k.log)).draft q)
next_tile z k h by index p block n words told in_hand count there shows =
    let kept = told.holds.summary in (
      p,
      is_own z k k by n _ p index block in_hand refl count (rw kept.own_is at there),
      rw kept.draft_is at shows,
    )

-- the own tiles up to a position, and that position's, are the own tiles up to the next one
pub one_more : (z : Base) (k : KeeperView) (h : Holding) (index p more : ℕ) (o : Option ℕ)
    → IsToldByLog z (entries k.log) h → p < tiles z
    → index ≡ length (own_list (take p (blocks z (entries k.log)).own))
    → get_or (own_blocks h.grid) p None ≡ o → more ≡ one_own o
    → index + more ≡ length (own_list (take (p + 1) (blocks z (entries k.log)).own))
one_more z k h index p more o told inside count there more_is =
    grind (arith, own_more (blocks z (entries k.log)).own p, tidy_told z (entries k.log) h told)

-- the own tiles up to the last position are all own tiles
pub all_own : (z : Base) (k : KeeperView) (h : Holding) (n count : ℕ)
    → IsToldByLog z (entries k.log) h → n ≡ tiles z
    → count ≡ length (own_list (take n (blocks z (entries k.log)).own))
    → count ≡ length (own_list (blocks z (entries k.log)).own)
all_own z k h n count told all is =
    let long = (tidy_told z (entries k.log) h told).shape.own in
    rw (take_all n (blocks z (entries k.log)).own (omega arith)) at is

-- the block at a position of the next directory, by what is held, is the one by the log
pub next_block : (z : Base) (k : KeeperView) (h : Holding) (p block : ℕ)
    → IsToldByLog z (entries k.log) h
    → block ≡ get_or (mapped (own_blocks h.grid) (newest_blocks h.grid)) p 0
    → block ≡ get_or (mapped (blocks z (entries k.log)).own
    (directory_of (blocks z (entries k.log)) (newest (story z (entries k.log))))) p 0
next_block z k h p block told is = rw (told.holds.summary.own_is, told.holds.mapped) at is

-- the first free slot of what is held is the next slot of the log
pub next_slot_is : (z : Base) (k : KeeperView) (h : Holding) (slot : ℕ)
    → IsToldByLog z (entries k.log) h → slot ≡ first_free h.ledger.kept.slots
    → slot ≡ next_slot z (story z (entries k.log))
unfolding next_slot
next_slot_is z k h slot told is = rw told.holds.summary.ledger_is.kept_is at is

-- a publish that has stored the rows of its own tiles, and then the directory, is worked once what
-- it does is done
pub publish_worked : (z : StoreId) (k u : KeeperView) (h new : Holding) (by stored p : ℕ)
    (reply : Reply) → IsInHand z k h by Publish
    → stored ≡ length (own_list (blocks z.base (entries k.log)).own) → p ≡ tiles z.base
    → u ≡ writing k by (64 * stored + p) → Does h Publish reply new
    → IsWorked z k h by Publish reply u new
unfolding steps_before
publish_worked z k u h new by stored p reply hand count every stores does = record {
  done = 64 * stored + p;
  words = [];
  keeper_is = stores;
  all_done = rw (← count, ← every) refl;
  reply_is = the_reply (story z.base (entries k.log)) Publish reply []
      (does z.base (entries k.log) hand.told).0.reply_is tt;
  does = does;
}

-- how many words a publish stores
pub ruleset storing = (own_long, all_own, own_few)
