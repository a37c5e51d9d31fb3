-- The count that the arena keeps is the length of its free list.
use Rattle.std.proofs.Common.{sym, ap, ◌∙◌, length}
use Rattle.arena.specs.Chain.{Pool}
use Rattle.arena.proofs.Chains.{chain-length}
use Rattle.arena.proofs.arena.Arena.free_len.Goals as goal

pub returns : goal.returns
returns c = sym (chain-length _ _ _) ∙ ap (λ (p : Pool). length p.free) c.self.view_is
