-- Each round deals the next reader, for which there is room, and keeps the rule.
use Rattle.shelf.proofs.Names.{◌++◌, ◌∷◌, [], ap, ◌∙◌, arith, length, arc_value, newcomer, ◌≡◌}
use Rattle.shelf.proofs.Names.{store_at, rules, now-within}
use Rattle.std.proofs.lemmas.List.FromFn.{length-map-range_with_len}
use Rattle.shelf.proofs.seats.Newcomers.{newcomers-push}
use Rattle.shelf.proofs.steps.OpeningSteps.{deals}
use Rattle.shelf.proofs.opening.deal_all.Goals as goal

pub split_seat-requires : goal.split_seat-requires
split_seat-requires c =
    let role = ap (λ m. m.0) c.loop-number.invariant.role in
    rw (c.deref.ensures, role) (search (rules, now-within, deals))

pub push_reserved-requires : goal.push_reserved-requires
push_reserved-requires c =
    let as_many = ap length c.loop-number.invariant.dealt
    ∙ length-map-range_with_len _ 0 c.loop-number.number in
    omega (arith, c.loop-number.dealt.ok, c.loop-number.invariant.room, c.loop-number-test.true)

pub loop-number-preserved : goal.loop-number-preserved
loop-number-preserved c =
    let n = c.loop-number.number in
    let store = store_at c.args.keeper.now.table_id (arc_value c.args.words.now).shared.key in
    let reader_is : newcomer n (store_at c.into_badge-seat.result.table_id
    (arc_value c.in_ok-own.own).shared.key) ≡ newcomer n store = search rules in
    record {
      table = c.split_seat.ensures.0 ∙ c.loop-number.invariant.table;
      role = search rules;
      dealt = c.push_reserved.ensures.items
          ∙ ((λ i. c.loop-number.invariant.dealt i ++ reader_is i ∷ []) ∙ newcomers-push store n);
      room = rw c.push_reserved.ensures.capacity c.loop-number.invariant.room;
    }
