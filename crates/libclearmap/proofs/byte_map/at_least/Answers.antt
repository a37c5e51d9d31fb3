-- A bit of the mask is what the byte of its place is compared with.
use Rattle.libclearmap.proofs.Names.{ℕ, ◌≤◌, ◌%◌, ◌^◌, nat_le, false, Bool, List, length, map, ap}
use Rattle.libclearmap.proofs.Names.{cond, ◌∙◌, arith, w8, replicate, bit_at, bit_mask_l}
use Rattle.libclearmap.proofs.Names.{mask_l-mod, tops_compared, zip2_splat_left, get_or-map}
use Rattle.libclearmap.proofs.Names.{length-map}
use lib.Lanes.{mask_l}
use Rattle.libclearmap.proofs.byte_map.at_least.Goals as goal

pub returns : goal.returns
returns c k within =
    let is = λ (x : ℕ). nat_le c.args.byte x in
    let xs = c.args.block in
    let lanes = tops_compared w8 nat_le (replicate 64 c.args.byte) xs
    ∙ zip2_splat_left nat_le c.args.byte 64 xs c.fits-block.0 in
    let few : length (map is xs) ≤ 64 = omega (arith, length-map xs is, c.fits-block.0) in
    ap (λ (ms : List Bool). bit_at (mask_l ms % 2 ^ 64) k) lanes
    ∙ (ap (λ (n : ℕ). bit_at n k) (mask_l-mod (map is xs) 64 few)
    ∙ (bit_mask_l (map is xs) k
    ∙ ap (λ b. cond b 1 0) (get_or-map is xs k 0 false (omega (arith, c.fits-block.0)))))
