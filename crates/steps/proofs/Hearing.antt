-- Lines that are done in a world, one after another.
use Rattle.std.proofs.Common.{◌≡◌, ℕ, List, [], ◌∷◌, ◌++◌, Option, refl, sym, subst, ap, ◌∙◌}
use Rattle.std.proofs.Common.{append_assoc}
use Rattle.std.proofs.lemmas.List.{append-nil}
use Rattle.std.proofs.lemmas.List.Concat.{flat_map-append}
use Rattle.metric.specs.Stream.{Appends, AppendsFront}
use Rattle.metric.proofs.Appending.{Appends-nothing, Appends-more, AppendsFront-more}
use Rattle.events.specs.Views.{State}
use Rattle.steps.specs.StepLines.{step_said}
use Rattle.steps.specs.StepRuns.{IsAnswerLine, AreLinesDone, IsDoneInPart}
use Rattle.steps.specs.Steps.{AreAnswered, IsAnswered, written_lines}

-- lines that are answered, and one more that is answered after them, are lines that are answered
AreAnswered-more : (old mid new : State) (lines texts : List (List ℕ)) (line text : List ℕ)
    → AreAnswered old lines texts mid → IsAnswered (step_said line) mid text new
    → AreAnswered old (lines ++ line ∷ []) (texts ++ text ∷ []) new
AreAnswered-more old mid new [] [] line text done next =
    (new, subst (λ (w : State). IsAnswered (step_said line) w text new) done next, refl)
AreAnswered-more old mid new [] (t ∷ texts) line text done next = absurd done
AreAnswered-more old mid new (l ∷ lines) [] line text done next = absurd done
AreAnswered-more old mid new (l ∷ lines) (t ∷ texts) line text (between, first, rest) next =
    (between, first, AreAnswered-more between mid new lines texts line text rest next)

-- texts and one more are written as the lines of those, and then the line of that one
written_lines-more : (texts : List (List ℕ)) (text : List ℕ)
    → written_lines (texts ++ text ∷ []) ≡ written_lines texts ++ (text ++ 10 ∷ [])
unfolding written_lines
written_lines-more texts text =
    flat_map-append (λ line. line ++ 10 ∷ []) texts (text ∷ [])
    ∙ ap (λ t. written_lines texts ++ t) (append-nil (text ++ 10 ∷ []))

-- no texts are written as no bytes
written_lines-none : written_lines [] ≡ []
unfolding written_lines
written_lines-none = refl

-- the first of some lines were done and their answers written, and the others are left
pub record IsHeard (start : State) (all left : List (List ℕ)) (before now : Option (List ℕ))
    (world : State) : Type 0 where
  pub heard : List (List ℕ)
  pub lines_are : all ≡ heard ++ left
  pub done : AreLinesDone start heard before now world

-- before any line is done, all lines are left
pub IsHeard-nothing : (start : State) (all : List (List ℕ)) (before : Option (List ℕ))
    → IsHeard start all all before before start
IsHeard-nothing start all before =
    record {
      heard = [];
      lines_are = refl;
      done = record {
        answers = [];
        answered = refl;
        written = rw written_lines-none (Appends-nothing before);
      };
    }

-- where one more of the lines that are left is done and its answer written, that is so of the lines
-- after it
pub IsHeard-more : (start old new : State) (all left : List (List ℕ)) (line text : List ℕ)
    (before now after : Option (List ℕ))
    → IsHeard start all (line ∷ left) before now old → IsAnswerLine (step_said line) old text new
    → Appends now text after → IsHeard start all left before after new
IsHeard-more start old new all left line text before now after so_far next written = record {
  heard = so_far.heard ++ line ∷ [];
  lines_are = so_far.lines_are ∙ sym (append_assoc so_far.heard (line ∷ []) left);
  done = record {
    answers = so_far.done.answers ++ next.answer ∷ [];
    answered = AreAnswered-more start old new so_far.heard so_far.done.answers line next.answer
        so_far.done.answered next.answered;
    written = rw (written_lines-more so_far.done.answers next.answer)
        (Appends-more before now after (written_lines so_far.done.answers)
        (next.answer ++ 10 ∷ []) so_far.done.written (rw (← next.text_is) written));
  };
}

-- where one more line is done, and its answer is written in part, the lines are done in part
pub IsHeard-part : (start old new : State) (all left : List (List ℕ)) (line text : List ℕ)
    (before now after : Option (List ℕ))
    → IsHeard start all (line ∷ left) before now old → IsAnswerLine (step_said line) old text new
    → AppendsFront now text after → IsDoneInPart start all before after
IsHeard-part start old new all left line text before now after so_far next written = record {
  heard = so_far.heard ++ line ∷ [];
  unheard = left;
  last = new;
  answers = so_far.done.answers ++ next.answer ∷ [];
  lines_are = so_far.lines_are ∙ sym (append_assoc so_far.heard (line ∷ []) left);
  answered = AreAnswered-more start old new so_far.heard so_far.done.answers line next.answer
      so_far.done.answered next.answered;
  written =
      rw (written_lines-more so_far.done.answers next.answer, ← append-nil (next.answer ++ 10 ∷ []))
      (AppendsFront-more before now after (written_lines so_far.done.answers)
      (next.answer ++ 10 ∷ []) [] so_far.done.written (rw (← next.text_is) written));
}
