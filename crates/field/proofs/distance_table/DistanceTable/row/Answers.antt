-- The row's numbers stand in its strip.
use Rattle.std.proofs.Common.{ℕ, ◌-◌, ◌*◌, ◌/◌, ◌%◌, List, [], map, slice_index_or}
use Rattle.field.proofs.ObstacleLemmas.{line_at}
use Rattle.field.proofs.distance_table.DistanceTable.row.Goals as goal

pub returns-clause-each : goal.returns-clause-each
returns-clause-each c =
    let inside = c.self.inside.strips in
    let lists : List (List ℕ) = map (λ strip. strip.items) inside.all.items in
    let row : ℕ = c.args.y - inside.y0 in
    rw (← c.self.view_is, c.line.ensures.line)
    (λ x column. line_at (slice_index_or lists (row / inside.height) [])
    (row % inside.height * inside.width) inside.width x 0 column)
