-- Logs with callers: what a beginning has, what one more entry adds, and how many entries a reader
-- has.
use Rattle.shelf.proofs.Names.{nat_tests, common_steps, rules, ◌≡◌, ℕ, ◌+◌, ◌<◌, ◌≤◌, List, [], ◌∷◌}
use Rattle.shelf.proofs.Names.{◌++◌, length, ap, sym, ◌∙◌, arith, All, map-append, length-map}
use Rattle.shelf.proofs.Names.{IsPrefix, StoreEntry, entries, made_by}
use Rattle.std.proofs.Common.{append-nil, append_assoc}
use Rattle.std.proofs.lemmas.List.Elements.{All-append}
use Rattle.events.specs.Safe.{IsBeginning}
use Rattle.events.proofs.accounts.TimesLemmas.{times-append}

-- a seat's log is a prefix of itself
pub prefix-itself : (log : List StoreEntry) → IsPrefix log log
prefix-itself log = ([], append-nil log)

-- a prefix of a log is also a prefix of the log with one more entry
pub prefix-push : (seen log : List StoreEntry) (e : StoreEntry) → IsPrefix seen log
    → IsPrefix seen (log ++ e ∷ [])
prefix-push seen log e p = (
  p.0 ++ e ∷ [],
  sym (append_assoc seen p.0 (e ∷ []))
      ∙ ap (λ (l : List StoreEntry). l ++ e ∷ []) p.1,
)

-- a prefix of a log, without its callers, is a prefix of the log without callers
pub prefix-entries : (seen log : List StoreEntry) → IsPrefix seen log
    → IsBeginning (entries seen) (entries log)
prefix-entries seen log p = search (rules, map-append)

-- a log with one more entry has, without callers, that entry's command and reply at its end
pub entries-push : (log : List StoreEntry) (e : StoreEntry)
    → entries (log ++ e ∷ []) ≡ entries log ++ e.entry ∷ []
entries-push log e = map-append (λ (f : StoreEntry). f.entry) log (e ∷ [])

-- a log without its callers has as many entries
pub length-entries : (log : List StoreEntry) → length (entries log) ≡ length log
length-entries log = length-map log (λ (e : StoreEntry). e.entry)

-- in two logs, one after the other, a reader has as many entries as in each of them together
pub made_by-append : (n : ℕ) (log more : List StoreEntry)
    → made_by n (log ++ more) ≡ made_by n log + made_by n more
made_by-append n log more = search (rules, map-append, times-append)

-- a beginning has no more entries of a reader than the log
pub made_by-prefix : (n : ℕ) (seen log : List StoreEntry) → IsPrefix seen log
    → made_by n seen ≤ made_by n log
made_by-prefix n seen log p = search (rules, made_by-append)

-- a reader has no more entries than the log
pub made_by-fits : (n : ℕ) (log : List StoreEntry) → made_by n log ≤ length log
made_by-fits n [] = omega arith
made_by-fits n (e ∷ es) = grind (arith, nat_tests, made_by-fits n es)

-- where all callers of a log are below d, and a new entry's too, all callers of the longer log are
pub callers-push : (d : ℕ) (log : List StoreEntry) (e : StoreEntry) → All (λ f. f.by < d) log
    → e.by < d → All (λ f. f.by < d) (log ++ e ∷ [])
callers-push d log e all one = grind (arith, nat_tests, common_steps, All-append)
