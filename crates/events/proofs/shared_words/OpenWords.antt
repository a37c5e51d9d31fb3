-- The words of a world that is opened, and its free blocks.
use Rattle.events.proofs.Names.{rules, ◌≡◌, ℕ, zero, suc, ◌+◌, ◌*◌, ◌<◌, ◌≤◌, List, [], ◌∷◌, ◌++◌}
use Rattle.events.proofs.Names.{length, get_or, replicate, ap, arith, None, range_with_len}
use Rattle.events.proofs.Names.{mul-le-mul_left, get_or-replicate, row_word, bad_field, Base, tiles}
use Rattle.events.proofs.Names.{word_count, map_at, tile_at, AreOpeningWords}
use Rattle.events.proofs.steps.OpenWorld.{bad_field-none}
use Rattle.events.proofs.shared_words.PlaceLemmas.{map_place, tile_place}
use Rattle.std.proofs.Common.{refl, ◌∙◌}
use Rattle.events.specs.declared.plan.Plan.{Plan}
use Rattle.events.specs.Words.{IsPlan}

-- a range with the number after it is a range that is longer by one
pub range_with_len-push : (a n b : ℕ) → a + n ≡ b
    → range_with_len a n ++ b ∷ [] ≡ range_with_len a (suc n)
range_with_len-push a zero b is = let same : b ≡ a = omega arith in ap (λ (m : ℕ). m ∷ []) same
range_with_len-push a (suc n) b is = search (rules, range_with_len-push (a + 1) n b (omega arith))

-- the directory of slot 0 lies within the words
pub directory_room : (k : Base) (plan : Plan) (n : ℕ) → IsPlan k plan
    → bad_field (tiles k) k.setting ≡ None → n ≡ word_count k → plan.directories + plan.tiles ≤ n
unfolding word_count
directory_room k plan n is fits n_is = search (rules, bad_field-none, mul-le-mul_left)

-- the blocks of version 0 lie within the words
pub blocks_room : (k : Base) (plan : Plan) (n : ℕ) → IsPlan k plan
    → bad_field (tiles k) k.setting ≡ None → n ≡ word_count k → plan.rows + 64 * tiles k ≤ n
unfolding word_count
blocks_room k plan n is fits n_is = search (rules, bad_field-none)

-- the directory of slot 0 lies before the blocks' rows
directory_below : (k : Base) (plan : Plan) (p : ℕ) → IsPlan k plan
    → bad_field (tiles k) k.setting ≡ None → p < tiles k → plan.directories + p < plan.rows
directory_below k plan p is fits h = search (rules, bad_field-none, mul-le-mul_left)

-- the directory that was written stays where only later words are written
pub directory_written : (k : Base) (plan : Plan) (mid new : List ℕ) → IsPlan k plan
    → bad_field (tiles k) k.setting ≡ None
    → ((p : ℕ) → p < plan.tiles → get_or mid (plan.directories + p) 0 ≡ p)
    → ((n : ℕ) → n < plan.rows → get_or new n 0 ≡ get_or mid n 0)
    → (p : ℕ) → p < tiles k → get_or new (map_at k 0 p) 0 ≡ p
directory_written k plan mid new is fits written stays p h =
    let at : plan.directories + (0 * plan.tiles + p) ≡ plan.directories + p = omega arith in
    rw (← map_place k plan 0 plan.tiles p refl is, at)
    (stays (plan.directories + p) (directory_below k plan p is fits h)
    ∙ written p (rw is.tiles_is h))

-- the rows that were written stand in the blocks of version 0
pub rows_written : (k : Base) (plan : Plan) (new : List ℕ) → IsPlan k plan
    → ((p i : ℕ) → p < tiles k → i < 64
    → get_or new (plan.rows + (p * 64 + i)) 0 ≡ row_word k.opening p i)
    → (p i : ℕ) → p < tiles k → i < 64 → get_or new (tile_at k p i) 0 ≡ row_word k.opening p i
rows_written k plan new is written p i hp hi =
    rw (← tile_place k plan p i is) (written p i hp hi)

-- words that were 0 are those of an opened world, once version 0 is written
pub words_opened : (k : Base) (plan : Plan) (old new : List ℕ) (n : ℕ) → IsPlan k plan
    → old ≡ replicate n 0 → n ≡ word_count k → length new ≡ n
    → ((m : ℕ) → m < plan.directories → get_or new m 0 ≡ get_or old m 0)
    → ((p : ℕ) → p < tiles k → get_or new (map_at k 0 p) 0 ≡ p)
    → ((p i : ℕ) → p < tiles k → i < 64 → get_or new (tile_at k p i) 0 ≡ row_word k.opening p i)
    → AreOpeningWords k new
unfolding word_count
words_opened k plan old new n is old_is n_is new_long before directory rows =
    search (rules, get_or-replicate)
