-- Four short distances are put one after the other.
use Rattle.std.proofs.Common.{◌≡◌, ◌∷◌, length, rules, slice_index_or}
use Rattle.std.proofs.lemmas.List.{append-nil}
use Rattle.printing.specs.Measured.{distance_text}
use Rattle.printing.proofs.Fours.{AreShort-bits, four_items}
use Rattle.printing.proofs.PuttingLemmas.{Puts-more}
use Rattle.printing.proofs.distances.put_four.Goals as goal

pub put_short-next-requires-clause-few : goal.put_short-next-requires-clause-few
put_short-next-requires-clause-few c =
    (AreShort-bits c.args.four.now c.if-first-second-lt-SHORT.true).first

pub put_short-next-requires-then-first-second-lt-SHORT-clause-few :
    goal.put_short-next-requires-then-first-second-lt-SHORT-clause-few
put_short-next-requires-then-first-second-lt-SHORT-clause-few c =
    (AreShort-bits c.args.four.now c.if-first-second-lt-SHORT.true).second

pub put_short-next-requires-then-first-second-lt-SHORT-2-clause-few :
    goal.put_short-next-requires-then-first-second-lt-SHORT-2-clause-few
put_short-next-requires-then-first-second-lt-SHORT-2-clause-few c =
    (AreShort-bits c.args.four.now c.if-first-second-lt-SHORT.true).third

pub put_short-requires-clause-few : goal.put_short-requires-clause-few
put_short-requires-clause-few c =
    (AreShort-bits c.args.four.now c.if-first-second-lt-SHORT.true).last

pub returns-then-first-second-lt-SHORT-clause-text :
    goal.returns-then-first-second-lt-SHORT-clause-text
returns-then-first-second-lt-SHORT-clause-text c =
    let long : length c.args.four.now ≡ 4 = search rules in
    rw (
      four_items c.args.four.now long,
      append-nil (32 ∷ distance_text (slice_index_or c.args.four.now 3 0)),
    )
    (Puts-more _ _ _ _ _ _ _ _ c.put_short-next.ensures.text
    (Puts-more _ _ _ _ _ _ _ _ c.put_short-next-then-first-second-lt-SHORT.ensures.text
    (Puts-more _ _ _ _ _ _ _ _ c.put_short-next-then-first-second-lt-SHORT-2.ensures.text
    c.put_short.ensures.text)))
