-- Once each block holds the number of the next, all blocks are one free list, in their order.
use Rattle.std.proofs.Common.{◌≡◌, ℕ, ◌≤◌, sym, subst, arith}
use Rattle.arena.specs.Chain.{Filled}
use Rattle.arena.proofs.Chains.{whole_arena, whole_chain}
use Rattle.arena.proofs.arena.Arena.new.Goals as goal

-- two numbers of which neither is larger are equal
whole : {n m : ℕ} → n ≤ m → m ≤ n → n ≡ m
whole {n} {m} l l' = omega arith

pub invariant_of-result : goal.invariant_of-result
invariant_of-result c =
    let inv = c.filling.invariant in let made = c.in_ok-region.ensures in
    let all = whole inv.0 c.filling-test.false in
    let f : Filled c.filling.region.blocks c.args.count c.args.count =
    subst (λ (n : ℕ). Filled c.filling.region.blocks n c.args.count) all inv.1 in
    (whole_arena _ _ f c.requires, (sym inv.2, sym inv.3), made.2)

pub returns-clause-free : goal.returns-clause-free
returns-clause-free c = grind (arith, whole, whole_chain)
