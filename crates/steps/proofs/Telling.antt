-- The text of a world is written whole or in part.
use Rattle.std.proofs.Common.{◌≡◌, ℕ, List, [], ◌∷◌, ◌++◌, Option, Ok, codes, refl, sym, ap, ◌∙◌}
use Rattle.std.proofs.Common.{inl, subst}
use Rattle.std.specs.Fmt.{decimal}
use Rattle.std.proofs.lemmas.List.{append-nil}
use Rattle.metric.specs.Stream.{Appends, AppendsFront}
use Rattle.metric.proofs.Appending.{Appends-more, AppendsFront-more, AppendsFront-whole}
use Rattle.events.specs.Runs.{IsOpened}
use Rattle.events.specs.Views.{State}
use Rattle.events.specs.Words.{tiles}
use Rattle.steps.specs.declared.steps.opening.OpenLine.{OpenLine}
use Rattle.steps.specs.Opening.{base_opened, judged, later_lines, opened_by, opening_told}
use Rattle.steps.specs.StepRuns.{AreLinesDone, IsDoneInPart, IsWorldTold, IsToldInPart}
use Rattle.steps.specs.Steps.{IsBegun, IsWorldText, written_lines}
use Rattle.words.specs.TextLines.{lines_of}

-- the first answer line tells how many positions the map has
abbrev pub opened_text : ℕ → List ℕ
opened_text positions = (codes "OPENED " ++ decimal positions) ++ 10 ∷ []

-- the first answer line and those after it are the text
written_lines-first : (positions : ℕ) (answers : List (List ℕ))
    → written_lines ((codes "OPENED " ++ decimal positions) ∷ answers)
    ≡ opened_text positions ++ written_lines answers
unfolding written_lines
written_lines-first positions answers = refl

-- where no other line comes after it, the first answer line is the whole text
written_lines-alone : (positions : ℕ)
    → written_lines ((codes "OPENED " ++ decimal positions) ∷ []) ≡ opened_text positions
unfolding written_lines
written_lines-alone positions = append-nil (opened_text positions)

-- where the first answer line is written, and then all lines are done, the whole text is told
pub told_whole : (start last : State) (positions : ℕ) (lines : List (List ℕ))
    (before between after : Option (List ℕ))
    → Appends before (opened_text positions) between → AreLinesDone start lines between after last
    → IsWorldTold start positions lines before after
told_whole start last positions lines before between after first done = record {
  text = written_lines ((codes "OPENED " ++ decimal positions) ∷ done.answers);
  text_is = record {
    last = last;
    answers = done.answers;
    answered = done.answered;
    text_is = refl;
  };
  written = rw (written_lines-first positions done.answers)
      (Appends-more before between after (opened_text positions)
      (written_lines done.answers) first done.written);
}

-- where the first answer line is written, and then some lines are done, the text is told in part
pub told_in_part : (start : State) (positions : ℕ) (lines : List (List ℕ))
    (before between after : Option (List ℕ))
    → Appends before (opened_text positions) between → IsDoneInPart start lines between after
    → IsToldInPart start positions lines before after
told_in_part start positions lines before between after first done = record {
  heard = done.heard;
  unheard = done.unheard;
  text = written_lines ((codes "OPENED " ++ decimal positions) ∷ done.answers);
  lines_are = done.lines_are;
  text_is = record {
    last = done.last;
    answers = done.answers;
    answered = done.answered;
    text_is = refl;
  };
  written =
      rw (written_lines-first positions done.answers, ← append-nil (written_lines done.answers))
      (AppendsFront-more before between after (opened_text positions)
      (written_lines done.answers) [] first done.written);
}

-- where the first answer line is written in part, the text is told in part
pub told_first : (start : State) (positions : ℕ) (lines : List (List ℕ))
    (before after : Option (List ℕ)) → AppendsFront before (opened_text positions) after
    → IsToldInPart start positions lines before after
told_first start positions lines before after front = record {
  heard = [];
  unheard = lines;
  text = written_lines ((codes "OPENED " ++ decimal positions) ∷ []);
  lines_are = refl;
  text_is = record { last = start; answers = []; answered = refl; text_is = refl };
  written = rw (written_lines-alone positions) front;
}

-- a text that is told whole is told in part too
pub told_all : (start : State) (positions : ℕ) (lines : List (List ℕ))
    (before after : Option (List ℕ)) → IsWorldTold start positions lines before after
    → IsToldInPart start positions lines before after
told_all start positions lines before after whole = record {
  heard = lines;
  unheard = [];
  text = whole.text;
  lines_are = sym (append-nil lines);
  text_is = whole.text_is;
  written = AppendsFront-whole before after whole.text whole.written;
}

-- what is told in part begins an answer to the bytes whose first line opened the world
pub told_begun : (bytes first : List ℕ) (later : List (List ℕ)) (start : State) (positions : ℕ)
    (before after : Option (List ℕ)) → lines_of bytes ≡ first ∷ later
    → (opening : OpenLine) × (judged (opening_told first) ≡ Ok opening)
    × IsOpened (base_opened opening) start × (positions ≡ tiles (base_opened opening))
    → IsToldInPart start positions later before after → IsBegun bytes before after
told_begun bytes first later start positions before after lines
    (opening, told, opened, count) part = record {
      heard = part.heard;
      unheard = part.unheard;
      text = part.text;
      status = 0;
      lines_are = ap later_lines lines ∙ part.lines_are;
      answer =
          let by : opened_by (lines_of bytes) ≡ Ok opening = ap opened_by lines ∙ told in
          inl (rw by (record {
            start = start;
            opened = opened;
            text_is = subst (λ (n : ℕ). IsWorldText start n part.heard part.text) count
                part.text_is;
            status_is = refl;
          }));
      written = part.written;
    }
