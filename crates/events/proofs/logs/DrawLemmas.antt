-- A fill and a stamp of a bitmap are what a paint and a stamp do to the draft.
use Rattle.events.proofs.Names.{rules, ◌≡◌, ℕ, Bool, ap, sym, ◌∙◌, None, Cells, IsBitmap, changes}
use Rattle.events.proofs.Names.{Command, Paint, Stamp, drawn, cells_changed}
use Rattle.bits.specs.Cells.{with_rect, with_stamp}
use Rattle.bits.proofs.ChangesLemmas.{changes-self}
use Rattle.metric.specs.declared.rect.Rect.{Rect}
use Rattle.events.specs.Drawing.{value_given}

-- a rectangle that is filled is a paint
pub drawn_paint : (b new : Cells) (r : Rect) (black : Bool)
    → new ≡ with_rect b r.x0 r.y0 r.x1 r.y1 black → new ≡ drawn b (Paint r black)
unfolding drawn
drawn_paint b new r black is = search rules

-- a bitmap that is laid is a stamp
pub drawn_stamp : (b new : Cells) (x0 y0 : ℕ) (stamp : Cells) → new ≡ with_stamp b x0 y0 stamp
    → new ≡ drawn b (Stamp x0 y0 stamp)
unfolding drawn
drawn_stamp b new x0 y0 stamp is = search rules

-- the count of a fill or a stamp is that of the command
pub counted : (b new : Cells) (c : Command) (n : ℕ) → new ≡ drawn b c → n ≡ changes b new
    → n ≡ cells_changed b c
counted b new c n is count = count ∙ ap (changes b) is

-- a command that gives no value leaves the draft
pub drawn_none : (b : Cells) (c : Command) → IsBitmap b → ((x y : ℕ) → value_given c x y ≡ None)
    → b ≡ drawn b c
unfolding drawn
drawn_none b c bitmap none = search rules

-- a command that leaves the draft as it is changes no cell
pub counted_none : (b : Cells) (c : Command) → b ≡ drawn b c → 0 ≡ cells_changed b c
counted_none b c is = sym (changes-self b) ∙ ap (changes b) is

-- what a command draws, and how many cells that changes
pub ruleset drawings = (drawn_paint, drawn_stamp, drawn_none, counted, counted_none)
