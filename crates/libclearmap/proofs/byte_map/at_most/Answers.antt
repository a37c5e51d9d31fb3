-- A bit of the mask is what the byte of its place is compared with.
use Rattle.libclearmap.proofs.Names.{ℕ, nat_le, false, map, ap, cond, ◌∙◌, arith, w8, bit_at}
use Rattle.libclearmap.proofs.Names.{bitmask_splat, bit_mask_l, get_or-map}
use Rattle.libclearmap.proofs.byte_map.at_most.Goals as goal

pub returns : goal.returns
returns c k within =
    let is = λ (x : ℕ). nat_le x c.args.byte in
    ap (λ (n : ℕ). bit_at n k) (bitmask_splat w8 nat_le c.args.block 64 c.args.byte c.fits-block.0
    (omega arith))
    ∙ (bit_mask_l (map is c.args.block) k
    ∙ ap (λ b. cond b 1 0) (get_or-map is c.args.block k 0 false (omega (arith, c.fits-block.0))))
