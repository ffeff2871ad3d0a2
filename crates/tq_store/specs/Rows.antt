-- The rows of a part of a window. After van den Bercken and Seeger 1996; the keys are this project's own.
use Rattle.std.specs.Prelude.{◌≡◌, ◌≢◌, ℕ, ◌+◌, ◌-◌, ◌*◌, ◌<◌, ◌≤◌, ◌≤ℤ◌, ◌↔◌, max, List, Some, map, slice_get, true, Contains}
use Rattle.std.proofs.Common.{subst}
use Rattle.std.specs.List.Sorted.{IsStrictlyIncreasing}
use Rattle.tq_base.specs.declared.period.Period.{Period}
use Rattle.tq_event.specs.declared.event.Event.{Event}
use Rattle.tq_event.specs.History.{Row, rows_of}
use Rattle.tq_event.specs.Versions.{birth_of, version_at}
use Rattle.tq_scan.specs.declared.window.Part.{Part}
use Rattle.tq_scan.specs.declared.window.Window.{Window}
use Rattle.tq_scan.specs.Windows.{IsInside, lies_in, whole_of}
use Rattle.tq_base.specs.declared.key_range.KeyRange.{KeyRange}
use Rattle.tq_base.specs.KeyRanges.{key_of}
use Rattle.tq_store.specs.Keys.{shifted, tree_key}

-- the whole window of a range of keys and a period: the tree keys of the range, and the versions from that of the
-- period's first instant to that of its last one
abbrev pub whole_window : List Event → ℕ → KeyRange → Period → Part
whole_window history n range period = record {
  low = shifted range.low * 4294967296;
  high = (shifted range.high + 1) * 4294967296;
  first = version_at history n period.start;
  last = version_at history n (period.end - 1);
}

-- the part has keys and versions, all of them in the other part
pub record IsWithin (all part : Part) : Type 0 where
  pub wide : part.low < part.high
  pub long : part.first ≤ part.last
  pub low : all.low ≤ part.low
  pub high : part.high ≤ all.high
  pub first : all.first ≤ part.first
  pub last : part.last ≤ all.last

-- a part inside a window lies in the whole of it
pub within_window : (w : Window) (all part : Part) → whole_of w ≡ all → IsInside w part → IsWithin all part
within_window w all part is inside =
    subst (λ a. IsWithin a part) is (record { wide = inside.wide; long = inside.long; low = inside.low; high = inside.high; first = inside.first; last = inside.last })

-- the tree key of a row
abbrev pub row_key : Row → ℕ
row_key row = tree_key row.values row.number

-- a row's reference point in the window lies in the part: the row's tree key, at the later of the row's first version
-- and the window's
abbrev pub HasReference : List Event → ℕ → ℕ → Period → Part → Row → Type 0
HasReference history n table period part row =
    lies_in part (row_key row) (max (birth_of history table row.number) (version_at history n period.start)) ≡ true

-- a row as of the first n events: its key lies in the range, its period overlaps the given one, and its reference point
-- lies in the part
pub record IsPartRow (history : List Event) (n table : ℕ) (range : KeyRange) (period : Period) (part : Part) (row : Row) : Type 0 where
  pub known : Contains (rows_of history n table) row
  pub low : range.low ≤ℤ key_of row.values
  pub high : key_of row.values ≤ℤ range.high
  pub begins : row.from < period.end
  pub lasts : period.start < row.to
  pub reference : HasReference history n table period part row

-- exactly these rows, in the order of their keys and numbers
pub record ArePartRows (history : List Event) (n table : ℕ) (range : KeyRange) (period : Period) (part : Part) (rows : List Row) : Type 0 where
  pub ordered : IsStrictlyIncreasing (map row_key rows)
  pub just : (row : Row) → Contains rows row ↔ IsPartRow history n table range period part row

-- exactly these rows, each once, in any order
pub record HasPartRows (history : List Event) (n table : ℕ) (range : KeyRange) (period : Period) (part : Part) (rows : List Row) : Type 0 where
  pub apart : (i j : ℕ) (one other : Row) → i < j → slice_get rows i ≡ Some one → slice_get rows j ≡ Some other → row_key one ≢ row_key other
  pub just : (row : Row) → Contains rows row ↔ IsPartRow history n table range period part row
