-- A text that is written after another is written with it as one.
use Rattle.std.proofs.Common.{ℕ, List, [], ◌++◌, Option, Some, None, refl, sym, ap, subst, ◌∙◌}
use Rattle.std.proofs.Common.{append_assoc}
use Rattle.std.proofs.lemmas.List.{append-nil}
use Rattle.metric.specs.Stream.{Appends, AppendsFront}

-- nothing written leaves a stream as it was
pub Appends-nothing : (held : Option (List ℕ)) → Appends held [] held
Appends-nothing None = refl
Appends-nothing (Some before) = ap Some (sym (append-nil before))

-- two texts written one after the other are one text
pub Appends-more : (before between after : Option (List ℕ)) (first second : List ℕ)
    → Appends before first between → Appends between second after
    → Appends before (first ++ second) after
Appends-more None between after first second one two =
    let told : Appends None second after = subst (λ h. Appends h second after) one two in told
Appends-more (Some before) between after first second one two =
    let told : Appends (Some (before ++ first)) second after =
    subst (λ h. Appends h second after) one two in
    told ∙ ap Some (append_assoc before first second)

-- a text, and a prefix of the next, are a prefix of both and of what comes after them
pub AppendsFront-more : (before between after : Option (List ℕ)) (first second later : List ℕ)
    → Appends before first between → AppendsFront between second after
    → AppendsFront before (first ++ (second ++ later)) after
AppendsFront-more before between after first second later one two = record {
  front = first ++ two.front;
  back = two.back ++ later;
  whole = ap (λ t. first ++ (t ++ later)) two.whole
      ∙ (ap (λ t. first ++ t) (append_assoc two.front two.back later)
      ∙ sym (append_assoc first two.front (two.back ++ later)));
  appended = Appends-more before between after first two.front one two.appended;
}

-- a whole text is a prefix of itself
pub AppendsFront-whole : (before after : Option (List ℕ)) (text : List ℕ)
    → Appends before text after → AppendsFront before text after
AppendsFront-whole before after text one =
    record { front = text; back = []; whole = sym (append-nil text); appended = one }
