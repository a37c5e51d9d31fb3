-- Lines done in a world, and what was written for them: this project's own rule.
use Rattle.std.specs.Prelude.{◌≡◌, ℕ, List, [], ◌∷◌, ◌++◌, Option}
use Rattle.metric.specs.Stream.{Appends, AppendsFront}
use Rattle.events.specs.Views.{State}
use Rattle.steps.specs.StepLines.{StepSaid}
use Rattle.steps.specs.Steps.{AreAnswered, IsAnswered, IsWorldText, written_lines}

-- the answer to a line that says this, with its LF, and the state after it
pub record IsAnswerLine (line : StepSaid) (old : State) (text : List ℕ) (new : State) : Type 0 where
  pub answer : List ℕ
  pub answered : IsAnswered line old answer new
  pub text_is : text ≡ answer ++ 10 ∷ []

-- these lines were done, and their answer lines written
pub record AreLinesDone (old : State) (lines : List (List ℕ))
    (held_before held_after : Option (List ℕ)) (new : State) : Type 0 where
  pub answers : List (List ℕ)
  pub answered : AreAnswered old lines answers new
  pub written : Appends held_before (written_lines answers) held_after

-- a prefix of these lines was done, and a prefix of their answer lines written
pub record IsDoneInPart (old : State) (lines : List (List ℕ))
    (held_before held_after : Option (List ℕ)) : Type 0 where
  pub heard : List (List ℕ)
  pub unheard : List (List ℕ)
  pub last : State
  pub answers : List (List ℕ)
  pub lines_are : lines ≡ heard ++ unheard
  pub answered : AreAnswered old heard answers last
  pub written : AppendsFront held_before (written_lines answers) held_after

-- the text of a world that does these lines was written
pub record IsWorldTold (start : State) (positions : ℕ) (lines : List (List ℕ))
    (held_before held_after : Option (List ℕ)) : Type 0 where
  pub text : List ℕ
  pub text_is : IsWorldText start positions lines text
  pub written : Appends held_before text held_after

-- a prefix of the text of a world that does a prefix of these lines was written
pub record IsToldInPart (start : State) (positions : ℕ) (lines : List (List ℕ))
    (held_before held_after : Option (List ℕ)) : Type 0 where
  pub heard : List (List ℕ)
  pub unheard : List (List ℕ)
  pub text : List ℕ
  pub lines_are : lines ≡ heard ++ unheard
  pub text_is : IsWorldText start positions heard text
  pub written : AppendsFront held_before text held_after
