-- A reply that is an answer is the one that a commit makes, but for what a collect keeps.
use Rattle.events.proofs.Names.{rules, ◌≡◌, ℕ, List, Command, Collect, Reply, Story, kept_told}
use Rattle.events.proofs.Names.{kept_scanned, reply_of}
use Rattle.events.specs.Legal.{IsReply}

-- the versions that a collect's reply keeps are those that its scan keeps
abbrev pub HasKept : Story → Command → Reply → List ℕ → Type 0
HasKept s Collect reply words = kept_told s reply ≡ kept_scanned s words
HasKept s c reply words = Unit {0}

-- a reply that answers a command, and keeps what its scan keeps, is the reply that is committed
pub the_reply : (s : Story) (c : Command) (reply : Reply) (words : List ℕ) → IsReply s c reply
    → HasKept s c reply words → reply ≡ reply_of s c words
unfolding reply_of
the_reply s c reply words is same = search rules
