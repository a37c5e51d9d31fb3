-- The bands before this one are read.
use Rattle.std.proofs.Common.{◌≡◌, ◌<◌, ℕ}
use Rattle.std.specs.Int.{bit_at}
use Rattle.copies.specs.Copies.{IsCopying}
use Rattle.copies.proofs.copy.VersionCopy.read_rest.Given as goal

abbrev pub invariant-bands : goal.invariant-bands
invariant-bands g l =
    record {
      seat : l.seat ≡ l.fn.seat;
      copying : IsCopying g.Id.StoreName.store l.fn.seat l.version l.slot l.self.bitmap
          l.self.unread;
      read : (k : ℕ) → k < l.band → bit_at l.self.unread k ≡ 0;
    }
