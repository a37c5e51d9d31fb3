-- The block that was read joins what was taken before, and has at least one byte.
use Rattle.std.proofs.Common.{◌≡◌, ◌∙◌, ◌+◌, rules, arith, refl, true, is_ok, vec_len}
use Rattle.std.proofs.lemmas.List.{length-take-le}
use Rattle.metric.proofs.Taking.{Takes-behind}
use Rattle.streams.proofs.input.read_to_end.Goals as goal

pub turns-preserved : goal.turns-preserved
turns-preserved g c =
    let room : is_ok c.extend_from_slice.result ≡ true = search rules in
    let more : vec_len c.extend_from_slice.new.self ≡ vec_len c.turns.bytes + c.in-Ok.count =
    rw (c.extend_from_slice.ensures.len, room, length-take-le _ _ c.in-Ok.ensures.taken.fits) refl
    in
    let some = c.in-Ok.count-test.1 in
    let many = c.turns.invariant.as_many in
    record {
      taken = rw (c.extend_from_slice.ensures.items, room)
          (Takes-behind _ _ _ _ _ c.turns.invariant.taken c.in-Ok.ensures.taken.taken);
      none_failed = c.in-Ok.ensures.counts ∙ c.turns.invariant.none_failed;
      as_many = (omega arith);
    }
