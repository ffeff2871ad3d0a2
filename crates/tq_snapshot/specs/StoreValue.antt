-- The value of a store, the entries that it takes, and their history. This project's own.
use Rattle.std.specs.Prelude.{◌≡◌, ℕ, ◌≤◌, List, [], ◌∷◌, ◌++◌}
use mathlib.Core.Option.{some}
use mathlib.Core.List.{IsPrefix}
use lib.ListN.{get_elem?}
use Rattle.std.proofs.Common.{arith}
use Rattle.logbook.specs.Pages.{Book}
use Rattle.tq_base.specs.declared.catalogue.Catalogue.{Catalogue}
use Rattle.tq_event.specs.declared.event.Event.{Event}

-- a prefix of the history of a book
pub record PrefixValue : Type 0 where
  pub book : Book
  pub list : List Event

-- a history over a catalogue, with the prefix of a book's history that was seen with it
pub record StoreValue : Type 0 where
  pub catalogue : Catalogue
  pub events : List Event
  pub prefix : PrefixValue

-- an event, with the prefix of a book's history that was seen with it
pub record Arrival : Type 0 where
  pub event : Event
  pub prefix : PrefixValue

no_table_is_few : 0 ≤ 16
no_table_is_few = omega arith

-- the catalogue without tables
pub no_tables : Catalogue
no_tables = record { tables = []; few = no_table_is_few }

abbrev pub known : Book → List Event → PrefixValue
known book list = record { book = book; list = list }

-- the value with these events, which are those of the book that were seen
abbrev pub store_value : Catalogue → Book → List Event → StoreValue
store_value catalogue book events = record { catalogue = catalogue; events = events; prefix = known book events }

-- the value has the catalogue, and its events are those of the book that were seen
abbrev pub IsOf : Catalogue → Book → StoreValue → Type 0
IsOf catalogue book shown = shown ≡ store_value catalogue book shown.events

-- the shown events begin with each list that was found
abbrev pub AllBegin : List Event → List (List Event) → Type 0
AllBegin events finds = (seat : ℕ) (found : List Event) → get_elem? finds seat ≡ some found → IsPrefix found events

-- the value after it took the event
abbrev pub absorbed : StoreValue → Arrival → StoreValue
absorbed h arrival = record { catalogue = h.catalogue; events = h.events ++ arrival.event ∷ []; prefix = arrival.prefix }

-- later events, each with the history up to and including it
abbrev pub arrivals : Book → List Event → List Event → List Arrival
arrivals book before [] = []
arrivals book before (event ∷ events) =
    record { event = event; prefix = known book (before ++ event ∷ []) } ∷ arrivals book (before ++ event ∷ []) events
