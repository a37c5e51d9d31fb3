-- Each way fills the row, and no buffer changes its length.
use Rattle.std.proofs.Common.{◌≡◌, ℕ, ◌+◌, ◌∙◌, List, ◌++◌, drop, take, length, ap, sym}
use Rattle.std.specs.List.{length_refill}
use Rattle.envelope.proofs.stack.fill_row.Goals as goal

-- a list that is written over, as far as it goes, keeps its length
kept : {X : Type 0} (n : ℕ) (old new : List X) → n ≡ length old
    → length (take n (new ++ drop (length new) old)) ≡ length old
kept n old new many = sym (length_refill n old new many) ∙ many

pub returns-then-are_many_far-clause-answers : goal.returns-then-are_many_far-clause-answers
returns-then-are_many_far-clause-answers g c = c.fill_by_scans.ensures

pub returns-then-are_many_far-clause-stack : goal.returns-then-are_many_far-clause-stack
returns-then-are_many_far-clause-stack g c = c.stack.view_is

pub invariant_of-stack : goal.invariant_of-stack
invariant_of-stack g c =
    let stack = c.stack.inside in
    let widths = c.stack.invariant in (
      widths.0,
      kept stack.left.len stack.left.items c.fill_by_scans.new.left stack.left.ok.0 ∙ widths.1,
      kept stack.right.len stack.right.items c.fill_by_scans.new.right stack.right.ok.0 ∙ widths.2,
    )

pub returns-then-stack-gt0-clause-answers : goal.returns-then-stack-gt0-clause-answers
returns-then-stack-gt0-clause-answers g c = c.fill_far.ensures.answers

pub returns-then-stack-gt0-clause-stack : goal.returns-then-stack-gt0-clause-stack
returns-then-stack-gt0-clause-stack g c =
    let spans = c.stack.inside.spans in
    kept spans.len spans.items c.fill_far.new.spans spans.ok.0 ∙ c.stack.view_is

pub invariant_of-stack-then-stack-gt0 : goal.invariant_of-stack-then-stack-gt0
invariant_of-stack-then-stack-gt0 g c =
    let spans = c.stack.inside.spans in
    let widths = c.stack.invariant in
    let same = sym (kept spans.len spans.items c.fill_far.new.spans spans.ok.0) in
    (widths.0 ∙ ap (λ (n : ℕ). n + 272) same, widths.1 ∙ same, widths.2 ∙ same)

pub returns-clause-answers : goal.returns-clause-answers
returns-clause-answers g c = c.fill_beside-found.ensures

pub returns-clause-stack : goal.returns-clause-stack
returns-clause-stack g c =
    let spans = c.stack.inside.spans in
    kept spans.len spans.items c.fill_beside-found.new.spans spans.ok.0 ∙ c.stack.view_is

pub invariant_of-stack-2 : goal.invariant_of-stack-2
invariant_of-stack-2 g c =
    let spans = c.stack.inside.spans in
    let parts = c.stack.inside.parts in
    let widths = c.stack.invariant in
    let same = sym (kept spans.len spans.items c.fill_beside-found.new.spans spans.ok.0) in
    let part = kept parts.len parts.items c.fill_beside-found.new.parts parts.ok.0 in
    (part ∙ (widths.0 ∙ ap (λ (n : ℕ). n + 272) same), widths.1 ∙ same, widths.2 ∙ same)
