-- All columns have their parts.
use Rattle.std.proofs.Common.{ℕ, ◌+◌, ◌<◌, ◌≤◌, ◌⊎◌, inl, inr, List, length, arith}
use Rattle.envelope.proofs.BesideLemmas.{AreParts-set}
use Rattle.envelope.proofs.beside.set_parts.Goals as goal

-- what lies outside all columns lies outside those before the end
until_end : (entries : List ℕ) (p end : ℕ) → end ≤ length entries → (p < 128)
    ⊎ (length entries + 128 ≤ p) → (p < 128) ⊎ (end + 128 ≤ p)
until_end entries p end within (inl before) = inl before
until_end entries p end within (inr behind) = inr (omega (arith, within, behind))

pub returns : goal.returns
returns g c =
    let ended = c.columns-test.false in
    let entries = c.args.entries.now in
    AreParts-set g.M.Metric.distance g.M.Metric.joined g.M.Metric.part_of entries c.args.y
    c.columns.parts (g.met.M.Metric.small c.requires.laned) c.columns.invariant.as_many
    (λ column inside. c.columns.invariant.each column (omega (arith, inside, ended)))
    (λ p aside below. c.columns.invariant.others p
    (until_end entries p c.columns.column (omega (arith, c.columns.auto.column-end)) aside) below)
