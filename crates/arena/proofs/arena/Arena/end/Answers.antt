-- All blocks are in, since the free list is as long as there are blocks.
use Rattle.std.proofs.Common.{length, sym, ap, ◌∙◌}
use Rattle.arena.specs.Chain.{Pool}
use Rattle.arena.proofs.Chains.{all_in, chain-length}
use Rattle.arena.proofs.arena.Arena.end.Goals as goal

pub free-requires-clause-all : goal.free-requires-clause-all
free-requires-clause-all c =
    let view = c.self.view_is in let inside = c.self.inside in
    all_in _ (c.self.invariant.0.counted ∙ sym (chain-length _ _ _)
    ∙ ap (λ (p : Pool). length p.free) view ∙ c.requires
    ∙ ap (λ (p : Pool). p.home.count) (sym view) ∙ sym inside.region.counted)
