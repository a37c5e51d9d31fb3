-- Places of rows that lie one after another in one list.
use Rattle.std.proofs.Common.{ℕ, ◌+◌, ◌*◌, ◌<◌, ◌≤◌, arith}
use Rattle.std.proofs.Math.Nat.{mul-le-mul_left}

-- a place in a row above lies before the row
pub place_above : (b y width x : ℕ) → b < y → x < width → b * width + x < y * width
place_above b y width x above column =
    let rows : width * (b + 1) ≤ width * y = mul-le-mul_left width (omega arith) in
    omega (arith, rows)

-- a row's places end where a later row's begin
pub place_below : (y b width x : ℕ) → y < b → y * width + width ≤ b * width + x
place_below y b width x below =
    let rows : width * (y + 1) ≤ width * b = mul-le-mul_left width (omega arith) in
    omega (arith, rows)

-- a row's places end where all end, or before
pub row_ends : (y height width : ℕ) → y < height → y * width + width ≤ height * width
row_ends y height width below =
    let rows : width * (y + 1) ≤ width * height = mul-le-mul_left width (omega arith) in
    omega (arith, rows)
