-- As many readers' words are loaded as there were turns.
use Rattle.desk.proofs.Names.{◌≡◌, length, map, take, pin_word, readers_of, scanning}
use Rattle.desk.proofs.carry.collect.carry_collect.Given as goal

abbrev pub invariant-loop-reader : goal.invariant-loop-reader
invariant-loop-reader g l =
    record {
      keeper : l.keeper ≡ scanning l.fn.keeper l.by
          (map pin_word (take l.reader l.announced.items));
      place_each : length l.announced.items ≡ readers_of g.Id.StoreName.store;
    }
