-- How a story grows with its log: places, the newest version, and what a prefix of a log tells.
use Rattle.events.proofs.Names.{rules, ◌≡◌, ℕ, ◌+◌, ◌<◌, ◌≤◌, length, List, [], ◌∷◌, ◌++◌, get_or}
use Rattle.events.proofs.Names.{refl, ◌∙◌, arith, None, length-append, get_or_append_left, Reply}
use Rattle.events.proofs.Names.{Command, Entry, Setting, Story, opened, newest, bitmap_of, told}
use Rattle.events.proofs.Names.{refused, after, IsLegalFrom, IsLegal, Base, slot_of, story}
use Rattle.events.proofs.Names.{IsBeginning}
use Rattle.std.proofs.lemmas.List.{append-nil, append_assoc}

-- a command that is accepted finds a place
pub place_left : (g : Setting) (s : Story) (c : Command) → refused g s c ≡ None
    → s.places < 536870911
unfolding refused
place_left g s c accepted = search rules

-- an entry takes one place
places-told : (s : Story) (c : Command) (reply : Reply) → (told s c reply).places ≡ s.places + 1
unfolding told
places-told s c reply = search rules

-- the last checkpoint has a place
base-told : (s : Story) (c : Command) (reply : Reply) → s.base ≤ s.places
    → (told s c reply).base ≤ (told s c reply).places
unfolding told
base-told s c reply within = search rules

-- newest never falls, and grows by one at most
pub newest-told : (s : Story) (c : Command) (reply : Reply) → (newest s ≤ newest (told s c reply))
    × (newest (told s c reply) ≤ newest s + 1)
unfolding told newest
newest-told s c reply = search (rules, length-append)

-- over some entries newest never falls
newest-after : (s : Story) (log : List Entry) → newest s ≤ newest (after s log)
newest-after s [] = omega arith
newest-after s (e ∷ es) = let here = newest-told s e.command e.reply in
    let rest = newest-after (told s e.command e.reply) es in let up = here.0 in omega arith

-- the story after some entries and then some more is the one after all of them
after-append : (s : Story) (log more : List Entry)
    → after s (log ++ more) ≡ after (after s log) more
after-append s [] more = refl
after-append s (e ∷ es) more = after-append (told s e.command e.reply) es more

-- newest of a prefix of a log is at most newest of the log
pub newest-beginning : (k : Base) (seen log : List Entry) → IsBeginning seen log
    → newest (story k seen) ≤ newest (story k log)
unfolding story
newest-beginning k seen log h = search (rules, newest-after, after-append)

-- what was published stays: the bitmap of a version, and that there is one
published-told : (s : Story) (c : Command) (reply : Reply) (v : ℕ) → v < length s.published
    → (bitmap_of (told s c reply) v ≡ bitmap_of s v) × (v < length (told s c reply).published)
unfolding told bitmap_of
published-told s c reply v within = search (rules, get_or_append_left, length-append)

-- over some entries what was published stays: the bitmap of a version, and that there is one
published-after : (s : Story) (log : List Entry) (v : ℕ) → v < length s.published
    → (bitmap_of (after s log) v ≡ bitmap_of s v) × (v < length (after s log).published)
published-after s [] v within = (refl, within)
published-after s (e ∷ es) v within =
    let one = published-told s e.command e.reply v within in
    let rest = published-after (told s e.command e.reply) es v one.1 in
    (rest.0 ∙ one.0, rest.1)

-- a prefix of a log tells the same bitmap for each version that it has
pub bitmap-beginning : (k : Base) (seen log : List Entry) → IsBeginning seen log → (v : ℕ)
    → v ≤ newest (story k seen) → bitmap_of (story k log) v ≡ bitmap_of (story k seen) v
unfolding story newest opened
bitmap-beginning k seen log h v within = search (rules, published-after, after-append)

-- an entry leaves as many slots given as bitmaps published
each-told : (s : Story) (c : Command) (reply : Reply) → length s.slots ≡ length s.published
    → length (told s c reply).slots ≡ length (told s c reply).published
unfolding told
each-told s c reply each = search (rules, length-append)

-- over some entries there are as many slots given as bitmaps published
each-after : (s : Story) (log : List Entry) → length s.slots ≡ length s.published
    → length (after s log).slots ≡ length (after s log).published
each-after s [] each = each
each-after s (e ∷ es) each =
    each-after (told s e.command e.reply) es (each-told s e.command e.reply each)

-- an entry leaves the slot of each version as it is
slots-told : (s : Story) (c : Command) (reply : Reply) (v : ℕ) → v < length s.slots
    → (get_or (told s c reply).slots v 0 ≡ get_or s.slots v 0) × (v < length (told s c reply).slots)
unfolding told
slots-told s c reply v within = search (rules, get_or_append_left, length-append)

-- over some entries the slot of each version stays as it is
slots-after : (s : Story) (log : List Entry) (v : ℕ) → v < length s.slots
    → get_or (after s log).slots v 0 ≡ get_or s.slots v 0
slots-after s [] v within = refl
slots-after s (e ∷ es) v within = let one = slots-told s e.command e.reply v within in
    slots-after (told s e.command e.reply) es v one.1 ∙ one.0

-- a prefix of a log tells the same slot of each version that it has
pub slot-beginning : (k : Base) (seen log : List Entry) → IsBeginning seen log → (v : ℕ)
    → v ≤ newest (story k seen) → slot_of k (story k log) v ≡ slot_of k (story k seen) v
unfolding story newest opened slot_of
slot-beginning k seen log h v within = search (rules, each-after, slots-after, after-append)

-- a log is a prefix of itself
pub beginning_itself : (log : List Entry) → IsBeginning log log
beginning_itself log = record { rest = []; whole = append-nil log }

-- a prefix of a log is one of the log with one more entry
pub beginning-push : (seen log : List Entry) (e : Entry) → IsBeginning seen log
    → IsBeginning seen (log ++ e ∷ [])
beginning-push seen log e h = search (rules, append_assoc)

-- legal entries end at a place that can be counted, with newest and the last checkpoint's place at
-- most that
places-after : (g : Setting) (s : Story) (log : List Entry) → IsLegalFrom g s log
    → s.places ≤ 536870911 → newest s ≤ s.places → s.base ≤ s.places
    → ((after s log).places ≤ 536870911) × (newest (after s log) ≤ (after s log).places)
    × ((after s log).base ≤ (after s log).places)
places-after g s [] legal fits few within = (fits, few, within)
places-after g s (e ∷ es) legal fits few within =
    let room = place_left g s e.command legal.0.accepted in
    let place = places-told s e.command e.reply in
    let up = newest-told s e.command e.reply in
    let most = up.1 in
    places-after g (told s e.command e.reply) es legal.1 (omega arith) (omega arith)
    (base-told s e.command e.reply within)

-- a legal log ends at a place that can be counted, with newest and the last checkpoint's place at
-- most that
pub places-legal : (k : Base) (log : List Entry) → IsLegal k.setting k.opening log
    → ((story k log).places ≤ 536870911) × (newest (story k log) ≤ (story k log).places)
    × ((story k log).base ≤ (story k log).places)
unfolding story opened newest
places-legal k log legal = search (rules, places-after)

-- each entry takes a place
counted_places : (s : Story) (log : List Entry) → (after s log).places ≡ s.places + length log
counted_places s [] = omega arith
counted_places s (e ∷ es) = let rest = counted_places (told s e.command e.reply) es in
    let place = places-told s e.command e.reply in omega arith

-- an entry is counted for each place
pub places_are : (k : Base) (log : List Entry) → (story k log).places ≡ length log
unfolding story opened
places_are k log = search (rules, counted_places)
