-- The words of a publish are stored one after another.
use Rattle.shelf.proofs.Names.{◌≡◌, ℕ, ◌+◌, ◌*◌, ◌<◌, List, length, Option, Some, None, get_or}
use Rattle.shelf.proofs.Names.{refl, sym, arith, row_word, Publish, newest, directory_of, Base}
use Rattle.shelf.proofs.Names.{tiles, map_at, tile_at, story, blocks, steps_before, write_of}
use Rattle.shelf.proofs.Names.{KeeperView, entries, IsNextWrite}
use Rattle.std.proofs.Common.{take}
use Rattle.events.specs.Blocks.{own_list, mapped}
use Rattle.events.specs.Words.{next_slot}
use Rattle.events.specs.Steps.{map_write}
use Rattle.events.proofs.shared_words.PublishWords.{write_of-tile, write_of-map, own_at}
use Rattle.shelf.specs.Steps.{writing, IsOwn}

-- where a publish has stored n words, its n-th word is the next to store
next_write : (z : Base) (k0 k : KeeperView) (by n : ℕ) (at word : ℕ) → k ≡ writing k0 by n
    → n < steps_before z (blocks z (entries k0.log)) Publish
    → at ≡ (write_of z (story z (entries k0.log)) (blocks z (entries k0.log)) n).at
    → word ≡ (write_of z (story z (entries k0.log)) (blocks z (entries k0.log)) n).word
    → IsNextWrite z k at word
next_write z k0 k by n at word is more place value = rw is record {
  task = _;
  in_hand = refl;
  publish = refl;
  more = more;
  at_is = place;
  word_is = value;
}

-- where a publish has stored the rows before it, a row of an own block is the next word to store
pub next_row : (z : Base) (k0 k : KeeperView) (by j block position i at word n : ℕ)
    → k ≡ writing k0 by n → n ≡ 64 * j + i → IsOwn z k0 j block position → i < 64
    → at ≡ tile_at z block i → word ≡ row_word (story z (entries k0.log)).draft position i
    → IsNextWrite z k at word
unfolding steps_before
next_row z k0 k by j block position i at word n is count own row place value =
    let s = story z (entries k0.log) in
    let m = blocks z (entries k0.log) in
    let inside = own.inside in
    let same = write_of-tile z s m j i own.inside row in
    next_write z k0 k by n at word is (omega arith)
    (rw (count, same, place, own.block_is)) (rw (count, same, value, own.position_is))

-- where a publish has stored all rows, and the positions before it, a position's word is the next
-- to store
pub next_position : (z : Base) (k0 k : KeeperView) (by p at word n slot : ℕ) → k ≡ writing k0 by n
    → n ≡ 64 * length (own_list (blocks z (entries k0.log)).own) + p → p < tiles z
    → slot ≡ next_slot z (story z (entries k0.log)) → at ≡ map_at z slot p
    → word ≡ get_or (mapped (blocks z (entries k0.log)).own
    (directory_of (blocks z (entries k0.log)) (newest (story z (entries k0.log))))) p 0
    → IsNextWrite z k at word
unfolding steps_before map_write
next_position z k0 k by p at word n slot is count inside slot_is place value =
    let same = write_of-map z (story z (entries k0.log)) (blocks z (entries k0.log)) p in
    next_write z k0 k by n at word is (omega arith) (rw (count, same, place, slot_is))
    (rw (count, same, value))

-- a position with an own block has it at the place that own blocks before it count, also with the
-- current publish
pub is_own : (z : Base) (k0 k : KeeperView) (by n : ℕ) (own : List (Option ℕ)) (p j b : ℕ)
    → k ≡ writing k0 by n → own ≡ (blocks z (entries k0.log)).own
    → j ≡ length (own_list (take p own))
    → get_or own p None ≡ Some b → IsOwn z k j b p
is_own z k0 k by n own p j b is own_is count there =
    let told = own_at own 0 p b there in
    rw (is, count, own_is) record {
      inside = rw (← own_is) told.0;
      block_is = rw (← own_is) (sym told.1);
      position_is = rw (← own_is) (let at = told.2 in omega arith);
    }
