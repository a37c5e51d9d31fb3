-- The bytes of a row of a raw image.
use Rattle.std.proofs.Common.{◌≡◌, ℕ, ◌+◌, ◌-◌, ◌*◌, ◌/◌, ◌%◌, ◌<◌, ◌≤◌, List, length, take, get_or}
use Rattle.std.proofs.Common.{map, refl, sym, ap, ◌∙◌, arith}
use Rattle.std.specs.Int.{bit_at}
use Rattle.std.specs.List.{range_with_len}
use Rattle.std.proofs.lemmas.Grind.{same_number_lists}
use Rattle.std.proofs.lemmas.List.{get_or-take, length-take-le}
use Rattle.std.proofs.lemmas.List.FromFn.{get_or-map-range_with_len, length-map-range_with_len}
use Rattle.std.proofs.lemmas.Nat.Bits.{same_from_bits_below}
use Rattle.bits.specs.Cells.{Cells, has}
use Rattle.bits.specs.Words.{IsRowOf}
use Rattle.pbm.specs.Image.{bytes_across}
use Rattle.pbm.specs.Writing.{packed, raw_byte}
use Rattle.pbm.proofs.RawTexts.{one, packed-below, packed-bit, raw_byte-at}

-- a byte whose bits are those of eight cells is that of their pixels
byte-packed : (cells : Cells) (y k byte : ℕ) (words : List ℕ) → IsRowOf cells y words
    → k < bytes_across cells.width → byte < 256
    → ((i : ℕ) → i < 8 → bit_at byte i ≡ bit_at (get_or words (k / 8) 0) (8 * (k % 8) + (7 - i)))
    → byte ≡ packed cells (8 * k) y 8
byte-packed cells y k byte words is within small bits =
    let below = packed-below cells (8 * k) y 8 in
    same_from_bits_below 8 byte (packed cells (8 * k) y 8) small (omega (arith, below)) (λ i few.
    let column : 64 * (k / 8) + (8 * (k % 8) + (7 - i)) ≡ 8 * k + (8 - 1 - i) = omega arith in
    bits i few
    ∙ (is.bits (k / 8) (8 * (k % 8) + (7 - i)) (omega arith) (omega arith)
    ∙ (ap (λ (x : ℕ). one (has cells x y)) column ∙ sym (packed-bit cells (8 * k) y 8 i few))))

-- the first bytes of a row whose bits are those of a bitmap's row are those of its image
pub row-bytes : (cells : Cells) (y : ℕ) (words row : List ℕ) → IsRowOf cells y words
    → bytes_across cells.width ≤ length row
    → ((k : ℕ) → k < bytes_across cells.width → get_or row k 0 < 256)
    → ((k : ℕ) → k < 8 * length words → (i : ℕ) → i < 8
    → bit_at (get_or row k 0) i ≡ bit_at (get_or words (k / 8) 0) (8 * (k % 8) + (7 - i)))
    → take (bytes_across cells.width) row ≡ map (raw_byte cells)
    (range_with_len (y * bytes_across cells.width) (bytes_across cells.width))
row-bytes cells y words row is room small bits =
    let across : ℕ = bytes_across cells.width in
    let size : length (take across row) ≡ across = length-take-le across row room in
    let as_many = is.as_many in
    same_number_lists (take across row) (map (raw_byte cells) (range_with_len (y * across) across))
    (size ∙ sym (length-map-range_with_len (raw_byte cells) (y * across) across)) (λ k below.
    let within : k < bytes_across cells.width = omega (arith, size) in
    get_or-take across row k 0 within
    ∙ (byte-packed cells y k (get_or row k 0) words is within (small k within)
    (bits k (omega (arith, as_many)))
    ∙ (raw_byte-at cells y k within
    ∙ sym (get_or-map-range_with_len (raw_byte cells) (y * across) across k
    (y * across + k) 0 within refl))))
