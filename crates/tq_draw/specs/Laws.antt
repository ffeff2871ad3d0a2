-- What the cells of a scale and the bytes of a bar mean. This project's own.
use Rattle.std.specs.Prelude.{All, ◌≡◌, ◌↔◌, ◌≢◌, ℕ, ◌+◌, ◌<◌, ◌≤◌, IsTrue, ◌⊎◌, length, List, [], ◌∷◌, slice_index, slice_index_or, slice_range, true, None, Some}
use Rattle.tq_base.specs.Numbers.{instant_text}
use Rattle.tq_base.specs.Periods.{holds}
use Rattle.tq_base.specs.declared.form.Form.{Form}
use Rattle.tq_base.specs.declared.form.Form.TheVariants.{Dates}
use Rattle.tq_base.specs.declared.fragment.Fragment.{Fragment}
use Rattle.tq_base.specs.declared.period.Period.{Period}
use Rattle.tq_base.specs.declared.period.TheConstants.{FOREVER}
use Rattle.tq_draw.specs.Bars.{bar_of}
use Rattle.tq_draw.specs.Calendar.{is_first}
use Rattle.tq_draw.specs.Labels.{columns_in, label_of}
use Rattle.tq_draw.specs.Marks.{first_mark, mark_unit, marks_of, marks_text, ruler_text}
use Rattle.tq_draw.specs.Scales.{edge, scale_of, shown_rows, IsScale}
use Rattle.tq_draw.specs.declared.calendar.Unit.{Unit}
use Rattle.tq_draw.specs.declared.labels.TheConstants.{LABEL}
use Rattle.tq_draw.specs.declared.marks.Tick.{Tick}
use Rattle.tq_draw.specs.declared.scale.Scale.{Scale}

-- the cell covers the instant
abbrev pub Covers : Scale → ℕ → ℕ → Type 0
Covers scale cell instant = (edge scale cell ≤ instant) × (instant < edge scale (cell + 1))

-- the cells begin and end with the scale, and no cell is empty; each instant of the scale is in exactly one of them
pub record Tile (scale : Scale) : Type 0 where
  pub first : edge scale 0 ≡ scale.first
  pub last : edge scale scale.cells ≡ scale.last
  pub some : (cell : ℕ) → cell < scale.cells → edge scale cell < edge scale (cell + 1)
  pub one : (instant : ℕ) → scale.first ≤ instant → instant < scale.last → (cell : ℕ) × (cell < scale.cells) × Covers scale cell instant
  pub no_other : (cell other instant : ℕ) → cell < scale.cells → other < scale.cells → Covers scale cell instant → Covers scale other instant → cell ≡ other

-- the cells tile their scale: they are in order, and each instant of the scale is in exactly one
abbrev pub CellsTile : Type 0
CellsTile = (scale : Scale) → IsScale scale → Tile scale

-- the period holds some instant of the cell
abbrev pub IsValidIn : Scale → Period → ℕ → Type 0
IsValidIn scale period cell = (instant : ℕ) × Covers scale cell instant × IsTrue (holds period instant)

-- a bar has one byte for each cell: `#` exactly if the period holds an instant of the cell, else `.`
pub record IsBar (scale : Scale) (period : Period) : Type 0 where
  pub cells : length (bar_of scale period) ≡ scale.cells
  pub filled : (cell : ℕ) → cell < scale.cells → (slice_index (bar_of scale period) cell ≡ 35) ↔ IsValidIn scale period cell
  pub empty : (cell : ℕ) → cell < scale.cells → slice_index (bar_of scale period) cell ≢ 35 → slice_index (bar_of scale period) cell ≡ 46

-- the law holds for each scale and period
abbrev pub BarsMatchRows : Type 0
BarsMatchRows = (scale : Scale) (period : Period) → IsScale scale → IsBar scale period

-- the scale has an instant at which the period is valid
abbrev pub HasInstant : Scale → Period → Type 0
HasInstant scale period = (instant : ℕ) × (scale.first ≤ instant) × (instant < scale.last) × IsTrue (holds period instant)

-- the bar of a period with an instant in the scale has a filled cell
abbrev pub InstantsAreDrawn : Type 0
InstantsAreDrawn = (scale : Scale) (period : Period) → IsScale scale → HasInstant scale period →
    (cell : ℕ) × (cell < scale.cells) × (slice_index (bar_of scale period) cell ≡ 35)

-- the period is valid at an instant of the scale; it does not begin before the scale, unless it begins at instant 0 in
-- dates; the scale does not end before it, if it has an end
pub record IsCovered (form : Form) (scale : Scale) (period : Period) : Type 0 where
  pub shown : HasInstant scale period
  pub start : (scale.first ≤ period.start) ⊎ ((form ≡ Dates) × (period.start ≡ 0))
  pub end : (period.end ≤ scale.last) ⊎ (period.end ≡ FOREVER)

-- without a window the scale covers each row, whatever the rows are; a period ends at `forever` at the latest
abbrev pub ScalesCoverRows : Type 0
ScalesCoverRows = (form : Form) (room : ℕ) (rows : List Fragment) → All (λ (row : Fragment). row.period.end ≤ FOREVER) rows →
    All (λ (row : Fragment). IsCovered form (scale_of form room None rows) row.period) rows

-- with a window, each row that is shown is valid at an instant of the scale, and the window is the scale
pub record IsOverWindow (scale : Scale) (window : Period) (shown : List Fragment) : Type 0 where
  pub first : scale.first ≡ window.start
  pub last : scale.last ≡ window.end
  pub rows : All (λ (row : Fragment). HasInstant scale row.period) shown

abbrev pub WindowsAreScales : Type 0
WindowsAreScales = (form : Form) (room : ℕ) (window : Period) (rows : List Fragment) →
    let shown = shown_rows (Some window) rows in IsOverWindow (scale_of form room (Some window) shown) window shown

-- the mark is on the cell that holds a first day of the unit, at least 21 cells before the end; the ruler has `|` there, and
-- the day's date is written from there on
pub record IsDayMark (scale : Scale) (unit : Unit) (mark : Tick) : Type 0 where
  pub first : is_first unit mark.instant ≡ true
  pub holds : Covers scale mark.cell mark.instant
  pub room : mark.cell + 21 ≤ scale.cells
  pub label : slice_range (marks_text Dates scale) mark.cell (mark.cell + 10) ≡ instant_text Dates mark.instant
  pub ruler : slice_index (ruler_text Dates scale) mark.cell ≡ 124

-- each mark is at least 12 cells after the one before
abbrev pub AreApart : List Tick → Type 0
AreApart marks = (k : ℕ) (d : Tick) → k + 1 < length marks → (slice_index_or marks k d).cell + 12 ≤ (slice_index_or marks (k + 1) d).cell

-- in dates the marks are on first days of one unit; if there is no room for any, one is on the first cell
abbrev pub MarksAreFirstDays : Type 0
MarksAreFirstDays = (scale : Scale) → IsScale scale →
    ((marks_of Dates scale ≡ first_mark scale ∷ []) ⊎ All (IsDayMark scale (mark_unit scale)) (marks_of Dates scale))
    × AreApart (marks_of Dates scale)

-- a label takes at most 24 columns of a terminal
abbrev pub LabelsAreNarrow : Type 0
LabelsAreNarrow = (bytes : List ℕ) → columns_in (label_of bytes) ≤ LABEL
