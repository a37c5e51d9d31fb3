-- A bit of the mask is what the byte of its place is compared with.
use Rattle.std.proofs.Common.{ℕ, eqb, false, map, ap, cond, ◌∙◌, arith, w8}
use Rattle.std.specs.Int.{bit_at}
use Rattle.std.proofs.lemmas.Simd.{bitmask_splat, bit_mask_l}
use Rattle.std.proofs.lemmas.List.{get_or-map}
use Rattle.pbm.proofs.plain_word.equal_to.Goals as goal

pub returns : goal.returns
returns c k within =
    let is = λ (x : ℕ). eqb x c.args.byte in
    ap (λ (n : ℕ). bit_at n k)
    (bitmask_splat w8 eqb c.args.block 64 c.args.byte c.fits-block.0 (omega arith))
    ∙ (bit_mask_l (map is c.args.block) k
    ∙ ap (λ b. cond b 1 0) (get_or-map is c.args.block k 0 false (omega (arith, c.fits-block.0))))
