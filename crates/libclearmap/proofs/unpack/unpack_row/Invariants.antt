-- The cells of the words so far are written.
use Rattle.libclearmap.proofs.Names.{◌≡◌, ◌<◌, ◌≤◌, ◌+◌, ◌*◌, ◌⊎◌, ℕ, get_or, length, if◌then◌else◌}
use Rattle.libclearmap.proofs.Names.{has}
use Rattle.libclearmap.proofs.unpack.unpack_row.Given as goal

abbrev pub invariant-words : goal.invariant-words
invariant-words g l = let map = g.R.Rows.cells l.fn.rows in record {
  rows : l.rows ≡ l.fn.rows;
  wide : l.width ≡ map.width;
  long : length l.bytes ≡ length l.fn.bytes;
  cells : (x : ℕ) → x < 64 * l.index → x < map.width
      → get_or l.bytes (l.start + x) 0
      ≡ (if has map x l.y then l.shades.obstacle else l.shades.free);
  others : (k : ℕ) → (k < l.start) ⊎ (l.start + map.width ≤ k)
      → get_or l.bytes k 0 ≡ get_or l.fn.bytes k 0;
}
