-- The rows so far are written.
use Rattle.libclearmap.proofs.Names.{◌≡◌, ◌<◌, ◌≤◌, ◌-◌, ◌+◌, ◌*◌, ℕ, get_or, length, if◌then◌else◌}
use Rattle.libclearmap.proofs.Names.{has}
use Rattle.libclearmap.proofs.unpack.unpack_rows.Given as goal

abbrev pub invariant-rows : goal.invariant-rows
invariant-rows g l = let cells = g.R.Rows.cells l.fn.rows in record {
  rows : l.rows ≡ l.fn.rows;
  long : length l.bytes ≡ length l.fn.bytes;
  written : (x y : ℕ) → x < cells.width → 0 ≤ y → y < l.y
      → get_or l.bytes ((y - 0) * cells.width + x) 0
      ≡ (if has cells x y then l.shades.obstacle else l.shades.free);
  rest : (k : ℕ) → cells.height * cells.width ≤ k → get_or l.bytes k 0 ≡ get_or l.fn.bytes k 0;
}
