-- The steps of a scan are done one after another.
use Rattle.shelf.proofs.Names.{◌≡◌, ℕ, ◌<◌, List, [], ◌∷◌, ◌++◌, length, length-append, refl, ap}
use Rattle.shelf.proofs.Names.{sym, ◌∙◌, arith, Some, Base, Task, KeeperView, scanned}
use Rattle.shelf.specs.Steps.{IsNextScan, scanning}

-- where a collect's scan has loaded n words, the word of reader n is the next to load
pub next_scan : (z : Base) (k0 k : KeeperView) (by : ℕ) (words : List ℕ) (reader sessions : ℕ)
    → k ≡ scanning k0 by words → length words ≡ reader → reader < sessions
    → sessions ≡ z.setting.sessions
    → IsNextScan z k reader
next_scan z k0 k by words reader sessions is count below all = rw is record {
  task = _;
  in_hand = refl;
  collect = refl;
  reader_is = sym count;
  inside = omega arith;
}

-- once one more word is loaded, a collect's scan has seen that word too
pub scan_more : (k0 k l : KeeperView) (by : ℕ) (words : List ℕ) (word : ℕ) (items : List ℕ)
    → k ≡ scanning k0 by words → ((t : Task) → k.task ≡ Some t → l ≡ scanned k t word)
    → items ≡ words ++ word ∷ [] → l ≡ scanning k0 by items
scan_more k0 k l by words word items is step grown =
    step _ (ap (λ (q : KeeperView). q.task) is) ∙ rw (is, grown, length-append words (word ∷ []))
