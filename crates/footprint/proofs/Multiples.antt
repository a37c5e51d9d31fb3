-- Products of integers, by their parts: how they grow, and how many bits they have.
use Rattle.std.proofs.Common.{◌≡◌, ℕ, zero, suc, ◌+◌, ◌*◌, ◌<◌, ◌≤◌, refl, ap}
use Rattle.std.proofs.Common.{arith, ℤ, pos, negsuc, ◌+ℤ◌, ◌-ℤ◌, ◌*ℤ◌, neg_ℤ, ◌≤ℤ◌, ◌<ℤ◌}
use Rattle.std.proofs.Common.{unsigned_abs}
use Rattle.std.proofs.Math.Nat.{mul-le-mul_left}
use Rattle.std.proofs.lemmas.Int.{ints, unsigned_abs-mul}
use borrow.Author.Differences.{down, neg_is, product_is, up}
use Rattle.footprint.specs.Polygon.{line}
use Rattle.footprint.specs.Sides.{IsFactor}

-- a product with a difference, where the difference grows
pub grows : (d s t : ℤ) (n : ℕ) → up t + down s ≡ down t + up s + n
    → up (d *ℤ t) + down (d *ℤ s) + n * down d ≡ down (d *ℤ t) + up (d *ℤ s) + n * up d
grows d s t n e =
    omega (arith, ints, ap (λ m. up d * m) e, ap (λ m. down d * m) e)

-- a product with the next line is greater by a cell's steps of the other factor
pub one_further : (d n q : ℤ)
    → up (d *ℤ (line (n +ℤ pos 1) -ℤ q)) + down (d *ℤ (line n -ℤ q)) + 65536 * down d
    ≡ down (d *ℤ (line (n +ℤ pos 1) -ℤ q)) + up (d *ℤ (line n -ℤ q)) + 65536 * up d
one_further d n q =
    grows d (line n -ℤ q) (line (n +ℤ pos 1) -ℤ q) 65536 (omega (arith, ints))

-- a product with a difference is the difference of the products
pub parted : (d s p q : ℤ) → up s + down p + up q ≡ down s + up p + down q
    → up (d *ℤ s) + down (d *ℤ p) + up (d *ℤ q) ≡ down (d *ℤ s) + up (d *ℤ p) + down (d *ℤ q)
parted d s p q e =
    omega (arith, ints, ap (λ m. up d * m) e, ap (λ m. down d * m) e)

-- a natural times an integer has as many times its parts
pub k_times : (k : ℕ) (z : ℤ) → (up (pos k *ℤ z) ≡ k * up z) × (down (pos k *ℤ z) ≡ k * down z)
k_times k (pos n) = omega arith
k_times k (negsuc n) = omega (arith, neg_is (pos (k * suc n)))

-- a line has 65536 times the parts of its column
pub lined : (x : ℤ) → (up (line x) ≡ up x * 65536) × (down (line x) ≡ down x * 65536)
lined x = omega (arith, ints)

-- a product with a line is a multiple of the column, where the factor is a natural
pub from_line : (d x q : ℤ) (k : ℕ) → d ≡ pos k
    → up (d *ℤ (line x -ℤ q)) + up (d *ℤ q) + down x * (k * 65536)
    ≡ down (d *ℤ (line x -ℤ q)) + down (d *ℤ q) + up x * (k * 65536)
from_line d x q k e =
    let parts = parted d (line x -ℤ q) (line x) q (omega (arith, ints)) in
    let times : (up (d *ℤ line x) ≡ k * up (line x)) × (down (d *ℤ line x) ≡ k * down (line x)) =
    rw e (k_times k (line x)) in
    let steps = lined x in
    omega (arith, parts, times, ap (λ m. k * m) steps.0, ap (λ m. k * m) steps.1)

-- a product with a line is a multiple of the column, where the factor isn't above 0
pub from_line_up : (d x q : ℤ) (k : ℕ) → d ≡ neg_ℤ (pos k)
    → up (d *ℤ (line x -ℤ q)) + up (d *ℤ q) + up x * (k * 65536)
    ≡ down (d *ℤ (line x -ℤ q)) + down (d *ℤ q) + down x * (k * 65536)
from_line_up d x q k e =
    let parts = parted d (line x -ℤ q) (line x) q (omega (arith, ints)) in
    let both : (up d ≡ 0) × (down d ≡ k) = rw e (neg_is (pos k)) in
    let product = product_is d (line x) in
    let times : (up (d *ℤ line x) ≡ k * down (line x)) × (down (d *ℤ line x) ≡ k * up (line x)) =
    omega (
      arith,
      product,
      ap (λ m. m * up (line x)) both.0,
      ap (λ m. m * down (line x)) both.0,
      ap (λ m. m * up (line x)) both.1,
      ap (λ m. m * down (line x)) both.1,
    ) in
    let steps = lined x in
    omega (arith, parts, times, ap (λ m. k * m) steps.0, ap (λ m. k * m) steps.1)

-- a factor has 31 bits and a sign
pub factor_few : (a : ℤ) → IsFactor a → unsigned_abs a ≤ 2147483647
factor_few a p = let low = p.low in let high = p.high in omega (arith, ints, low, high)

-- a product of two factors has 62 bits and a sign
pub product_few : (a b : ℤ) → IsFactor a → IsFactor b → unsigned_abs (a *ℤ b) ≤ 4611686014132420609
product_few a b p q =
    let one = factor_few a p in
    let other = factor_few b q in
    let more = mul-le-mul_left (unsigned_abs b) one in
    let most = mul-le-mul_left 2147483647 other in
    omega (arith, unsigned_abs-mul a b, more, most)

-- 65536 times an integer above 0 is a natural
pub scaled : (d : ℤ) → (pos 0 <ℤ d) → d *ℤ pos 65536 ≡ pos (unsigned_abs d * 65536)
scaled (pos n) h = refl
scaled (negsuc n) h = absurd (omega (arith, ints, h))

-- 65536 times an integer above 0 is above 0
pub some_scaled : (d : ℤ) → (pos 0 <ℤ d) → 0 < unsigned_abs d * 65536
some_scaled (pos n) h = omega (arith, ints, h)
some_scaled (negsuc n) h = absurd (omega (arith, ints, h))

-- an integer that isn't below 0 is a natural
pub down_is : (d : ℤ) → (pos 0 ≤ℤ d) → d ≡ pos (unsigned_abs d)
down_is (pos n) h = refl
down_is (negsuc n) h = absurd (omega (arith, ints, h))

-- an integer that isn't above 0 is the negative of a natural
pub up_is : (d : ℤ) → (d ≤ℤ pos 0) → d ≡ neg_ℤ (pos (unsigned_abs d))
up_is (pos zero) h = refl
up_is (pos (suc n)) h = absurd (omega (arith, ints, h))
up_is (negsuc n) h = refl

-- zero less a number is its negative
pub minus_is : (z : ℤ) → pos 0 -ℤ z ≡ neg_ℤ z
minus_is z = omega (arith, ints)
