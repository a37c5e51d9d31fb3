-- What one more entry does to the newest version, and what NOW is after a log.
use Rattle.shelf.proofs.Names.{rules, ◌≡◌, ◌+◌, ◌<◌, ◌≤◌, cond, List, [], ◌∷◌, ◌++◌, length, arith}
use Rattle.shelf.proofs.Names.{length-append, opened, newest, IsLegal, Base, now_word, now_of}
use Rattle.shelf.proofs.Names.{slot_of, story, IsReady, places_are, StoreEntry, entries, is_publish}
use Rattle.shelf.proofs.Names.{newest_slot}
use Rattle.events.specs.declared.command.Command.{Command}
use Rattle.events.specs.declared.command.Reply.{Reply}
use Rattle.events.specs.declared.command.Entry.{Entry}
use Rattle.events.specs.Story.{Story}
use Rattle.events.specs.Legal.{told, after}
use Rattle.events.proofs.logs.LogLemmas.{places-legal}
use Rattle.events.proofs.invariants.TidyLog.{after-push}
use Rattle.shelf.proofs.logs.LogParts.{entries-push, length-entries}

-- the newest version of a story is one more after a publish, and the same after any other entry
newest_of_told : (s : Story) (c : Command) (reply : Reply) → 0 < length s.published
    → newest (told s c reply) ≡ newest s + cond (is_publish c) 1 0
unfolding told newest
newest_of_told s c reply some_version = search (rules, length-append)

-- a story that has a version still has one after an entry
version_told : (s : Story) (c : Command) (reply : Reply) → 0 < length s.published
    → 0 < length (told s c reply).published
unfolding told
version_told s c reply some_version = search (rules, length-append)

-- a story that has a version still has one after some entries
version_after : (s : Story) (log : List Entry) → 0 < length s.published
    → 0 < length (after s log).published
version_after s [] some_version = some_version
version_after s (e ∷ es) some_version =
    version_after (told s e.command e.reply) es (version_told s e.command e.reply some_version)

-- the story of each log has a version
version_there : (z : Base) (log : List Entry) → 0 < length (story z log).published
unfolding story opened
version_there z log = version_after (opened z.opening) log (omega arith)

-- the story of a log with one more entry is the log's story after that entry
pub story-push : (z : Base) (log : List StoreEntry) (e : StoreEntry)
    → story z (entries (log ++ e ∷ [])) ≡ told (story z (entries log)) e.entry.command e.entry.reply
unfolding story
story-push z log e = search (rules, entries-push, after-push)

-- the newest version of a log is one more where its last entry is a publish, else that of the log
-- before it
pub newest-push : (z : Base) (log : List StoreEntry) (e : StoreEntry)
    → newest (story z (entries (log ++ e ∷ [])))
    ≡ newest (story z (entries log)) + cond (is_publish e.entry.command) 1 0
newest-push z log e = search (rules, story-push, newest_of_told, version_there)

-- NOW of a log is made of its length, its newest version and that version's slot
pub now_of_log : (z : Base) (log : List StoreEntry)
    → now_of (story z (entries log)) ≡ now_word (length log) (newest (story z (entries log)))
    (newest_slot z log)
unfolding now_of slot_of
now_of_log z log = search (rules, places_are, length-entries)

-- a legal log has fewer than 2^29 entries, and its newest version is below 2^29
pub room : (z : Base) (log : List StoreEntry) → IsReady z
    → IsLegal z.setting z.opening (entries log)
    → (length log ≤ 536870911) × (newest (story z (entries log)) ≤ 536870911)
room z log ready legal = search (rules, places-legal, places_are, length-entries)
