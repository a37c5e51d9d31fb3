-- The row's line stands in its strip.
use Rattle.std.proofs.Common.{◌≡◌, ◌+◌, ◌-◌, ◌*◌, ◌/◌, ◌≤◌, ◌∙◌, [], length, map, arith, refl}
use Rattle.std.proofs.Common.{slice_index_or}
use Rattle.field.proofs.ObstacleLemmas.{length-line}
use Rattle.field.proofs.StripLemmas.{line_within, strip_here}
use Rattle.field.proofs.strips.Strips+Vec+V.line.Given as given
use Rattle.field.proofs.strips.Strips+Vec+V.line.Goals as goal

-- the strip that is read is the row's
here : (g : given.Over) (c : goal.After-deref g) → c.deref.result.now
    ≡ slice_index_or (map (λ strip. strip.items) c.args.self.now.all.items)
    ((c.args.y - c.args.self.now.y0) / c.args.self.now.height) []
here g c =
    let self = c.args.self.now in
    rw c.deref.ensures.value
    (strip_here (λ strip. strip.items) self.all.items self.height (self.y1 - self.y0)
    (c.args.y - self.y0) c.strip_of-row.result.0.now c.requires.strips.some
    c.requires.strips.enough (omega (arith, c.requires.from, c.requires.to))
    c.strip_of-row.ensures.strip)

-- the row's line ends in that strip
within : (g : given.Over) (c : goal.After-deref g)
    → c.strip_of-row.result.1 * c.from-width.result + c.from-width.result
    ≤ length c.deref.result.now
within g c =
    let self = c.args.self.now in
    rw (c.strip_of-row.ensures.row, c.from-width.ensures, here g c)
    (line_within self.width self.height (self.y1 - self.y0)
    (map (λ strip. strip.items) self.all.items) (c.args.y - self.y0) c.requires.strips
    (omega (arith, c.requires.from, c.requires.to)))

pub offset_bounds-deref-row : goal.offset_bounds-deref-row
offset_bounds-deref-row g c = let end = within g c in omega (arith, end)

pub slice_bounds-result-end : goal.slice_bounds-result-end
slice_bounds-result-end g c = within g c

pub returns-clause-len : goal.returns-clause-len
returns-clause-len g c =
    length-line c.deref.result.now (c.strip_of-row.result.1 * c.from-width.result)
    c.from-width.result (within g c.before)
    ∙ c.from-width.ensures

pub returns-clause-line : goal.returns-clause-line
returns-clause-line g c =
    rw (c.strip_of-row.ensures.row, c.from-width.ensures, here g c.before) refl
