-- Where each reader was given up once, what they made adds up to the log's length.
use Rattle.shelf.proofs.Names.{nat_tests, ◌≡◌, ◌==◌, ℕ, zero, suc, ◌+◌, ◌<◌, ◌≤◌, cond, List, []}
use Rattle.shelf.proofs.Names.{◌∷◌, length, refl, ◌∙◌, arith, All, times, StoreEntry, KeeperView}
use Rattle.shelf.proofs.Names.{made_by}
use Rattle.std.proofs.lemmas.Bool.{cases_eq}
use Rattle.std.specs.Prelude.{sum_by}
use Rattle.std.proofs.lemmas.List.Sums.{sum_by-cons}
use Rattle.shelf.specs.Close.{IsClosing}

-- two numbers that are one count 1, and others count 0
abbrev one_if : ℕ → ℕ → ℕ
one_if n m = cond (n == m) 1 0

-- the values of a function at the numbers below d are added up
abbrev sum_below : ℕ → (ℕ → ℕ) → ℕ
sum_below zero f = 0
sum_below (suc d) f = f d + sum_below d f

-- the sum below d of f plus g is the sum of f plus the sum of g
sum_below-plus : (d : ℕ) (f g : ℕ → ℕ)
    → sum_below d (λ n. f n + g n) ≡ sum_below d f + sum_below d g
sum_below-plus zero f g = refl
sum_below-plus (suc d) f g = let rest = sum_below-plus d f g in omega arith

-- the sum below d of zeros is 0
sum_below-none : (d : ℕ) → sum_below d (λ n. 0) ≡ 0
sum_below-none zero = refl
sum_below-none (suc d) = let rest = sum_below-none d in omega arith

-- where m isn't below d, no number below d equals it: one_if sums to 0
sum_below-past : (d m : ℕ) → d ≤ m → sum_below d (λ n. one_if n m) ≡ 0
sum_below-past zero m le = refl
sum_below-past (suc d) m le = grind (arith, nat_tests, sum_below-past d m)

-- where m is below d, one number below d equals it: one_if sums to 1
sum_below-once : (d m : ℕ) → m < d → sum_below d (λ n. one_if n m) ≡ 1
sum_below-once zero m below = absurd (omega arith)
sum_below-once (suc d) m below = grind (arith, nat_tests, sum_below-past d m, sum_below-once d m)

-- where a list has numbers below d alone, how often each of these stands in it adds up to its
-- length
all_counted : (d : ℕ) (ns : List ℕ) → ((n : ℕ) → d ≤ n → times n ns ≡ 0)
    → sum_below d (λ n. times n ns) ≡ length ns
all_counted d [] below = sum_below-none d
all_counted d (m ∷ ms) below =
    let rest = all_counted d ms (λ n le. let none_of = below n le in omega arith) in
    let split = sum_below-plus d (λ n. one_if n m) (λ n. times n ms) in
    grind (arith, nat_tests, sum_below-once d m, below m)

-- d terms of at most 1 add up to at most d
at_most : (d : ℕ) (f : ℕ → ℕ) → ((n : ℕ) → f n ≤ 1) → sum_below d f ≤ d
at_most zero f small = omega arith
at_most (suc d) f small = let rest = at_most d f small in let last = small d in omega arith

-- where d terms of at most 1 add up to d, each of them is 1
each_one : (d : ℕ) (f : ℕ → ℕ) → ((n : ℕ) → f n ≤ 1) → sum_below d f ≡ d → (n : ℕ) → n < d → f n ≡ 1
each_one zero f small all n below = absurd (omega arith)
each_one (suc d) f small all n below =
    let rest = at_most d f small in
    let last = small d in
    grind (arith, each_one d f small, cases_eq n d)

-- the sum over a list of f plus g is the sum of f plus the sum of g
sum_by-plus : (f g : ℕ → ℕ) (ns : List ℕ) → sum_by (λ n. f n + g n) ns ≡ sum_by f ns + sum_by g ns
sum_by-plus f g [] = refl
sum_by-plus f g (n ∷ ns) = let rest = sum_by-plus f g ns in
    omega (arith, sum_by-cons (λ m. f m + g m) n ns, sum_by-cons f n ns, sum_by-cons g n ns)

-- the sum over a list of zeros is 0
sum_by-none : (ns : List ℕ) → sum_by (λ n. 0) ns ≡ 0
sum_by-none [] = refl
sum_by-none (n ∷ ns) = let rest = sum_by-none ns in omega (arith, sum_by-cons (λ m. 0) n ns)

-- how many elements of a list equal m is how often m stands in it
sum_by-times : (m : ℕ) (ns : List ℕ) → sum_by (λ n. one_if n m) ns ≡ times m ns
sum_by-times m [] = refl
sum_by-times m (n ∷ ns) = let rest = sum_by-times m ns in
    grind (arith, nat_tests, sum_by-cons (λ k. one_if k m) n ns)

-- where each caller of a log stands once in a list, the numbers in the list have made all its
-- entries
made_by_all : (ns : List ℕ) (log : List StoreEntry) → All (λ e. times e.by ns ≡ 1) log
    → sum_by (λ n. made_by n log) ns ≡ length log
made_by_all ns [] once = sum_by-none ns
made_by_all ns (e ∷ es) once =
    let rest = made_by_all ns es (λ k d h. once (suc k) d (omega arith)) in
    let split = sum_by-plus (λ n. one_if n e.by) (λ n. made_by n es) ns in
    let first = sum_by-times e.by ns in
    let one : times e.by ns ≡ 1 = once 0 e (omega arith) in
    omega arith

-- where all readers were given up, what they made adds up to the log's length
pub closed_sum : (k : KeeperView) → IsClosing k → All (λ e. e.by < k.dealt) k.log
    → length k.gone ≡ k.dealt → sum_by (λ n. made_by n k.log) k.gone ≡ length k.log
closed_sum k closing callers all =
    let counted : sum_below k.dealt (λ n. times n k.gone) ≡ k.dealt =
    all_counted k.dealt k.gone closing.below ∙ all in
    made_by_all k.gone k.log (λ i d h. each_one k.dealt (λ n. times n k.gone) closing.once counted _
    (callers i d h))
