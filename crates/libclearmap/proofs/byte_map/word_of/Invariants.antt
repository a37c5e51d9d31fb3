-- The bits so far are those of the bytes so far.
use Rattle.libclearmap.proofs.Names.{◌≡◌, get_or, word_where, is_obstacle_byte}
use Rattle.libclearmap.proofs.byte_map.word_of.Given as goal

abbrev pub invariant-bytes : goal.invariant-bytes
invariant-bytes l = l.word ≡ word_where (λ i. is_obstacle_byte l.low l.high (get_or l.bytes i 0))
    l.i
