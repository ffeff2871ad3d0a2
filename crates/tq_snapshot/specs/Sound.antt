-- What holds of a writer and of a reader between two calls. This project's own.
use Rattle.std.specs.Prelude.{ℕ, ◌≡◌, ◌≤◌, List, ◌++◌, length, take}
use Rattle.logbook.specs.Pages.{Book}
use mathlib.Core.List.{IsPrefix}
use Rattle.tq_base.specs.declared.catalogue.Catalogue.{Catalogue}
use Rattle.tq_event.specs.declared.event.Event.{Event}
use Rattle.tq_event.specs.History.{IsHistory}
use Rattle.tq_snapshot.specs.StoreValue.{Arrival, StoreValue, IsOf, PrefixValue, arrivals}

-- the book's history is the published events and the first `count` of the pending events
pub record IsCommitted (published pending written : List Event) : Type 0 where
  pub count : ℕ
  pub within : count ≤ length pending
  pub is : written ≡ published ++ take count pending

-- the first `sent` of the pending events wait to be shown
pub record IsStaged (book : Book) (published : List Event) (waiting : List Arrival) (pending : List Event) (sent : ℕ) : Type 0 where
  pub within : sent ≤ length pending
  pub waits : waiting ≡ arrivals book published (take sent pending)

-- the shown value is one of the book; published and pending events are a history within the limit; the book has a
-- prefix of it; and the first `sent` of the pending events wait to be shown
pub record IsSound (catalogue : Catalogue) (book : Book) (shown : StoreValue) (waiting : List Arrival) (pending : List Event) (sent : ℕ) (prefix : PrefixValue) (limit : ℕ) : Type 0 where
  pub shows : IsOf catalogue book shown
  pub handed : IsStaged book shown.events waiting pending sent
  pub named : prefix.book ≡ book
  pub committed : IsCommitted shown.events pending prefix.list
  pub history : IsHistory catalogue (shown.events ++ pending)
  pub room : length (shown.events ++ pending) ≤ limit
  pub small : limit ≤ 16777216

-- the reader found the first `own` of the known events itself: they begin its last find
pub record FindsOwn (known : List Event) (own : ℕ) (find : List Event) : Type 0 where
  pub within : own ≤ length known
  pub begins : IsPrefix (take own known) find
