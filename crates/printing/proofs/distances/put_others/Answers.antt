-- Four more distances are put after those in front of them.
use Rattle.std.proofs.Common.{◌≡◌, ◌∷◌, ◌++◌, length, take, drop, sym, ap, ◌∙◌, arith}
use Rattle.std.proofs.Common.{rules, append_assoc, length-append}
use Rattle.std.proofs.lemmas.List.{take-append-drop}
use Rattle.std.proofs.lemmas.List.Concat.{flat_map-append}
use Rattle.printing.specs.Measured.{distance_text}
use Rattle.printing.proofs.PuttingLemmas.{Puts-more}
use Rattle.printing.proofs.distances.put_others.Goals as goal

pub fours-preserved : goal.fours-preserved
fours-preserved c =
    let front = c.fours.invariant.front in
    let four = c.in-Some.four.now in
    let first : four ≡ take 4 c.fours.rest.now = search rules in
    let later : c.in-Some.others.now ≡ drop 4 c.fours.rest.now = search rules in
    let many : length four ≡ 4 = search rules in
    record {
      front = front ++ four;
      whole = c.fours.invariant.whole
          ∙ (ap (λ t. front ++ t) (rw (first, later) (sym (take-append-drop 4 c.fours.rest.now)))
          ∙ sym (append_assoc front four c.in-Some.others.now));
      text = rw (flat_map-append (λ distance. 32 ∷ distance_text distance) front four)
          (Puts-more _ _ _ _ _ _ _ _ c.fours.invariant.text c.put_four-end.ensures.text);
      end_is = rw (length-append front four)
          (omega (arith, many, c.fours.invariant.end_is, c.put_four-end.ensures.end));
    }
