-- Each row of a window is in exactly one part of any cut.
use Rattle.std.specs.Prelude.{◌≡◌, ◌≤◌, ℕ, List, All, length, slice_get, Some}
use Rattle.std.specs.List.{flat_map}
use Rattle.tq_base.specs.declared.catalogue.Catalogue.{Catalogue}
use Rattle.tq_base.specs.declared.fragment.Fragment.{Fragment}
use Rattle.tq_base.specs.declared.period.Period.{Period}
use Rattle.tq_event.specs.declared.event.Event.{Event}
use Rattle.tq_base.specs.RowLists.{RowList}
use Rattle.tq_event.specs.History.{IsHistory, Row}
use Rattle.tq_scan.specs.declared.window.Part.{Part}
use Rattle.tq_scan.specs.declared.window.Window.{Window}
use Rattle.tq_scan.specs.Cuts.{AreTiles}
use Rattle.tq_scan.specs.Windows.{whole_of}
use Rattle.tq_base.specs.declared.key_range.KeyRange.{KeyRange}
use Rattle.tq_store.specs.Rows.{IsPartRow, whole_window}
use Rattle.tq_store.specs.Valid.{AreParts, AreValidIn, HasKeyIn}

-- the row is a row of one of the parts, and of no other
pub record IsRowOfOne (history : List Event) (n table : ℕ) (range : KeyRange) (period : Period) (parts : List Part) (row : Row) : Type 0 where
  pub place : ℕ
  pub part : Part
  pub stands : slice_get parts place ≡ Some part
  pub is : IsPartRow history n table range period part row
  pub only : (i : ℕ) (p : Part) → slice_get parts i ≡ Some p → IsPartRow history n table range period p row → i ≡ place

-- each row of a whole window is a row of exactly one part, and the parts have no other rows
pub record EachRowInOnePart (history : List Event) (n table : ℕ) (range : KeyRange) (period : Period) (parts : List Part) : Type 0 where
  pub one : (row : Row) → IsPartRow history n table range period (whole_window history n range period) row → IsRowOfOne history n table range period parts row
  pub all : (i : ℕ) (p : Part) (row : Row) → slice_get parts i ≡ Some p → IsPartRow history n table range period p row → IsPartRow history n table range period (whole_window history n range period) row

-- this holds for parts that tile the window
abbrev pub RowsAppearOnce : Type 0
RowsAppearOnce = (history : List Event) (n table : ℕ) (range : KeyRange) (period : Period) (w : Window) (parts : List Part)
    → whole_of w ≡ whole_window history n range period → AreTiles w parts → EachRowInOnePart history n table range period parts

-- parts that tile the window of the range and the period
pub record TileWindow (history : List Event) (n : ℕ) (range : KeyRange) (period : Period) (parts : List Part) : Type 0 where
  pub window : Window
  pub whole : whole_of window ≡ whole_window history n range period
  pub tiles : AreTiles window parts

-- the rows of such parts, one part after the other, are those of the table at each instant of the period, all with keys
-- of the range
abbrev pub PartsAreValid : Type 0
PartsAreValid = (catalogue : Catalogue) (history : List Event) (n table : ℕ) (range : KeyRange) (period : Period) (parts : List Part) (lists : List RowList)
    → IsHistory catalogue history → length history ≤ 16777216 → n ≤ length history
    → TileWindow history n range period parts → AreParts history n table range period parts lists
    → AreValidIn history n table range period (flat_map (λ (rows : RowList). rows.items) lists) × All (λ (row : Fragment). HasKeyIn range row.values) (flat_map (λ (rows : RowList). rows.items) lists)
