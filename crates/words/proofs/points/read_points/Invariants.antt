-- The points so far, and those that are left, are all, and those so far are kept as far as there
-- are places.
use Rattle.std.proofs.Common.{◌≡◌, ◌+◌, ◌++◌, ◌<◌, ◌≤◌, ◌^◌, length, take}
use Rattle.std.specs.Prelude.{option_map}
use Rattle.words.specs.Numbers.{points}
use Rattle.words.specs.Words.{words_left, bytes_left}
use Rattle.words.proofs.points.read_points.Given as goal

abbrev pub invariant-points : goal.invariant-points
invariant-points l = record {
  counted : option_map (λ cells. length cells) (points (words_left l.fn.rest))
      ≡ option_map (λ cells. l.count + length cells) (points (words_left l.rest));
  few : 0 < l.count → l.count + bytes_left l.rest ≤ 2 ^ 64;
  kept : l.count ≤ length l.cells → points (words_left l.fn.rest)
      ≡ option_map (λ more. take l.count l.cells ++ more) (points (words_left l.rest));
}

abbrev pub decreases-points : goal.decreases-points
decreases-points l = bytes_left l.rest
