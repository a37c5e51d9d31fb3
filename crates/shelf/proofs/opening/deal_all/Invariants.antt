-- This many readers are dealt, by number, and there is capacity for the others.
use Rattle.shelf.proofs.Names.{◌≡◌, ◌≤◌, [], arc_value, keeping, resting, store_at, newcomers}
use Rattle.std.proofs.Common.{vec_capacity}
use Rattle.shelf.proofs.opening.deal_all.Given as goal

abbrev pub invariant-loop-number : goal.invariant-loop-number
invariant-loop-number l =
    record {
      table : l.keeper.table_id ≡ l.fn.keeper.table_id;
      role : l.keeper.me ≡ (keeping (resting l.number []), []);
      dealt : l.dealt.items ≡ newcomers
          (store_at l.fn.keeper.table_id (arc_value l.words).shared.key) l.number;
      room : l.readers ≤ vec_capacity l.dealt;
    }
