-- A line that says no step is answered as a bad line, and the world stays.
use Rattle.std.proofs.Common.{codes, refl}
use Rattle.steps.proofs.steps.run.answer_line.Goals as goal

pub returns-in-Bad-clause-answered : goal.returns-in-Bad-clause-answered
returns-in-Bad-clause-answered c =
    rw (← c.in-Bad.ensures)
    (record {
      answer = codes "BAD LINE";
      answered = (refl, refl);
      text_is = c.bad_line.ensures.line;
    })
