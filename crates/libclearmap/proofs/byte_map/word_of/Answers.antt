-- Each byte adds its bit.
use Rattle.libclearmap.proofs.Names.{◌+◌, ◌≤◌, ◌^◌, arith, pow-le-pow_right, word_where-lt}
use Rattle.std.proofs.lemmas.Grind.{common_steps}
use Rattle.libclearmap.proofs.byte_map.word_of.Goals as goal

pub overflow_add-word : goal.overflow_add-word
overflow_add-word c =
    let more : c.bytes.i + 1 ≤ 64 = omega arith in
    let powers : 2 ^ (c.bytes.i + 1) ≤ 2 ^ 64 = pow-le-pow_right (omega arith) more in
    grind (arith, common_steps, word_where-lt)
