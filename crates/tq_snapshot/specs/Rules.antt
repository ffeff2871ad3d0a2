-- The rule of a book, and the effect of its one step. This project's own.
use Rattle.std.specs.Prelude.{ℕ, ◌≡◌, ◌==◌, true, List, [], ◌∷◌, ◌++◌, length, MatchBool}
use Rattle.logbook.specs.Pages.{Book, Cell, Named, Step, View}
use Rattle.tq_event.specs.declared.event.Event.{Event}

-- the first of the two words is the number of events; the other is not used
pub record IsCounted (cells : List Cell) (log : List Event) : Type 0 where
  pub words : cells ≡ (length log, true) ∷ (0, true) ∷ []

-- the first word of the book
abbrev pub count_word : Book → Named
count_word b = record { tracked = true; key = 0; book = b }

-- if the count was as expected, the event is appended after the events seen, which were all events
abbrev pub Appends : Step Event → View Event ℕ → ℕ → View Event ℕ → Type 0
Appends step before found after =
    MatchBool (found == step.old) ((after.0 ≡ before.0 ++ step.ask ∷ []) × (length before.0 ≡ step.old)) (Unit {0})
