-- The rows of a table at the instants of a period, as a list. This project's own.
use Rattle.std.specs.Prelude.{◌≡◌, ℕ, ◌≤ℤ◌, ◌&&◌, Bool, IsTrue, List, [], ◌∷◌, length, map, nat_le, nat_lt, slice_get, ⊤}
use Rattle.std.specs.Option.{option_map_or}
use Rattle.tq_base.specs.declared.catalogue.Catalogue.{Catalogue}
use Rattle.tq_base.specs.declared.catalogue.Schema.{Schema}
use Rattle.tq_base.specs.declared.fragment.Fragment.{Fragment}
use Rattle.tq_base.specs.declared.period.Period.{Period}
use Rattle.tq_base.specs.declared.value.Value.{Value}
use Rattle.tq_base.specs.Fragments.{copies, occurrences}
use Rattle.tq_base.specs.Periods.{holds}
use Rattle.tq_event.specs.declared.event.Event.{Event}
use Rattle.tq_event.specs.History.{Row, valid_at}
use Rattle.tq_base.specs.declared.key_range.KeyRange.{KeyRange}
use Rattle.tq_base.specs.KeyRanges.{key_of}
use Rattle.tq_base.specs.RowLists.{RowList}
use Rattle.tq_scan.specs.declared.window.Part.{Part}
use Rattle.tq_store.specs.Rows.{HasPartRows, whole_window}

-- the values have a key of the range
pub record HasKeyIn (range : KeyRange) (values : List Value) : Type 0 where
  pub low : range.low ≤ℤ key_of values
  pub high : key_of values ≤ℤ range.high

-- at each instant of the period, each row with a key of the range is valid as often in the list as in the table after
-- the first n events
abbrev pub AreValidIn : List Event → ℕ → ℕ → KeyRange → Period → List Fragment → Type 0
AreValidIn history n table range period rows =
    (t : ℕ) (v : List Value) → HasKeyIn range v → IsTrue (holds period t) → copies rows v t ≡ occurrences (valid_at history n table t) v

-- a row at an instant: its values, and whether it is valid
pub record RowAtInstant : Type 0 where
  pub values : List Value
  pub valid : Bool

-- a row of a list at the instant
abbrev pub fragment_at : ℕ → Fragment → RowAtInstant
fragment_at t fragment = record { values = fragment.values; valid = holds fragment.period t }

-- a row of the definition at the instant
abbrev pub row_at : ℕ → Row → RowAtInstant
row_at t row = record { values = row.values; valid = nat_le row.from t && nat_lt t row.to }

-- they are the rows of a part of a window, each once, as they are at each instant of the period
pub record ArePart (history : List Event) (n table : ℕ) (range : KeyRange) (period : Period) (part : Part) (fragments : List Fragment) : Type 0 where
  pub rows : List Row
  pub are : HasPartRows history n table range period part rows
  pub same : (t : ℕ) → IsTrue (holds period t) → map (fragment_at t) fragments ≡ map (row_at t) rows

-- they are the rows of a whole window
abbrev pub AreWholeWindow : List Event → ℕ → ℕ → KeyRange → Period → List Fragment → Type 0
AreWholeWindow history n table range period fragments = ArePart history n table range period (whole_window history n range period) fragments

-- each list has the rows of the part with its number
abbrev pub AreParts : List Event → ℕ → ℕ → KeyRange → Period → List Part → List RowList → Type 0
AreParts history n table range period [] [] = ⊤
AreParts history n table range period [] (rows ∷ lists) = ⊥
AreParts history n table range period (part ∷ parts) [] = ⊥
AreParts history n table range period (part ∷ parts) (rows ∷ lists) = ArePart history n table range period part rows.items × AreParts history n table range period parts lists

-- the number of columns of the table, 0 if it does not exist
abbrev pub width_of : Catalogue → ℕ → ℕ
width_of catalogue table = option_map_or (λ (schema : Schema). length schema.columns) (slice_get catalogue.tables table) 0
