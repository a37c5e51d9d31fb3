-- The tiles of the positions so far are stored, and then as many words of the directory as there
-- were turns.
use Rattle.desk.proofs.Names.{◌≡◌, ◌+◌, ◌*◌, length, take, own_list, blocks, entries, writing}
use Rattle.desk.proofs.carry.publish.carry_publish.Given as goal

abbrev pub invariant-tiles : goal.invariant-tiles
invariant-tiles g l =
    record {
      keeper : l.keeper ≡ writing l.fn.keeper l.by (64 * l.stored);
      count : l.stored ≡ length
          (own_list
          (take l.position (blocks g.Id.StoreName.store.base (entries l.fn.keeper.log)).own));
    }

abbrev pub invariant-directory : goal.invariant-directory
invariant-directory g l = l.keeper ≡ writing l.fn.keeper l.by (64 * l.stored + l.position)
