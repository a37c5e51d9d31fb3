-- One more place is made, and at the end as many as were asked for.
use Rattle.std.proofs.Common.{◌≡◌, ◌∙◌, arith}
use Rattle.std.proofs.lemmas.List.Elements.{All-push}
use Rattle.printing.specs.Parts.{IsShare}
use Rattle.printing.proofs.parts.WorkerLines.several.Goals as goal

pub parts-preserved : goal.parts-preserved
parts-preserved c =
    let so_far = c.parts.invariant in
    record {
      each = rw c.push_reserved.ensures.items
          (All-push (IsShare c.args.nearest c.args.width c.args.rows) c.parts.parts.items
          c.in_ok-new.field-0 so_far.each c.in_ok-new.ensures);
      many = rw so_far.many at c.push_reserved.ensures.len;
      room = rw c.push_reserved.ensures.capacity so_far.room;
    }

pub returns-clause-many : goal.returns-clause-many
returns-clause-many c =
    let all : c.parts._place ≡ c.args.count =
    omega (arith, c.parts-test.false, c.parts.auto._place-end) in
    c.parts.invariant.many ∙ all

pub returns-clause-each : goal.returns-clause-each
returns-clause-each c = c.parts.invariant.each
