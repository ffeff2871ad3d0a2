-- The marks of a scale, their labels, and the ruler that shows them. This project's own.
use Rattle.std.specs.Prelude.{All, ℕ, ◌≤◌, ◌+◌, ◌-◌, ◌*◌, ◌/◌, ◌==◌, nat_le, max, ◌&&◌, Bool, true, if◌then◌else◌, List, [], ◌∷◌, ◌++◌, length, map, replicate}
use Rattle.std.specs.List.{range_with_len}
use Rattle.tq_base.specs.declared.dates.TheConstants.{LAST_DAY}
use Rattle.tq_base.specs.declared.form.Form.{Form}
use Rattle.tq_base.specs.declared.form.Form.TheVariants.{Dates, Numbers}
use Rattle.tq_base.specs.declared.period.TheConstants.{FOREVER}
use Rattle.tq_draw.specs.Calendar.{first_days, unit_of}
use Rattle.tq_draw.specs.Scales.{edge}
use Rattle.tq_draw.specs.declared.calendar.Unit.{Unit}
use Rattle.tq_draw.specs.declared.marks.Tick.{Tick}
use Rattle.tq_draw.specs.declared.scale.Scale.{Scale}
use Rattle.tq_draw.specs.declared.scale.TheConstants.{MAX_CELLS}
use Rattle.tq_table.specs.Text.{bound_field}

-- whether a bound can be written in the form: in dates it must have a date
abbrev pub is_written : Form → ℕ → Bool
is_written Numbers bound = true
is_written Dates bound = nat_le bound LAST_DAY

-- a bound as answers write it; empty if it cannot be written in the form
abbrev pub mark_label : Form → ℕ → List ℕ
mark_label form bound = if is_written form bound then bound_field form bound else []

-- in numbers, the number of marks for this number of cells: one on each 16th cell, but after the first none with fewer
-- than 24 cells from it to the end
abbrev pub marks_on : ℕ → ℕ
marks_on cells = max 1 ((cells - 8) / 16)

-- the mark on the cell with 16 times this number, with the instant at which the cell begins
abbrev pub regular_mark : Scale → ℕ → Tick
regular_mark scale mark = record { cell = mark * 16; instant = edge scale (mark * 16) }

-- the cell that holds the instant
abbrev pub cell_of : Scale → ℕ → ℕ
cell_of scale instant = ((instant - scale.first + 1) * scale.cells - 1) / (scale.last - scale.first)

-- in dates, the number of marks that there is room for: a mark on each 12th cell, the last with 21 cells from it to the end
abbrev pub most_marks : ℕ → ℕ
most_marks cells = max 1 ((cells - 9) / 12)

-- the unit of the marks: the finest that has no more first days in the scale than there is room for marks
abbrev pub mark_unit : Scale → Unit
mark_unit scale = unit_of (most_marks scale.cells) scale.first scale.last

-- the days to mark: the first days of this unit
abbrev pub days_to_mark : Scale → List ℕ
days_to_mark scale = first_days (mark_unit scale) scale.first scale.last

-- the marks of these days, from left to right: each on the cell that holds its day, on cell `from` or later, at least 12
-- cells after the mark before, and with at least 21 cells from it to the end, where the label of the last bound stands
abbrev pub spaced : Scale → ℕ → List ℕ → List Tick
spaced scale from [] = []
spaced scale from (day ∷ days) =
    if nat_le from (cell_of scale day) && nat_le (cell_of scale day + 21) scale.cells
    then record { cell = cell_of scale day; instant = day } ∷ spaced scale (cell_of scale day + 12) days
    else spaced scale from days

-- the marks on first days
unfoldable pub day_marks : Scale → List Tick
day_marks scale = spaced scale 0 (days_to_mark scale)

-- the mark on the first cell, with the first instant
abbrev pub first_mark : Scale → Tick
first_mark scale = record { cell = 0; instant = scale.first }

-- the marks: in dates those on first days, or the one on the first cell if there are none
unfoldable pub marks_of : Form → Scale → List Tick
marks_of Numbers scale = map (regular_mark scale) (range_with_len 0 (marks_on scale.cells))
marks_of Dates scale = if length (day_marks scale) == 0 then first_mark scale ∷ [] else day_marks scale

-- the last bound above the end of the scale, where the first `column` columns are written, with at least one space before it
abbrev pub end_text : Form → Scale → ℕ → List ℕ
end_text form scale column = let label = mark_label form scale.last in
    replicate (max 1 (scale.cells + 1 - column - length label)) 32 ++ label

-- each mark is on a cell that a scale may have, at an instant or at the last bound
abbrev pub AreWithin : List Tick → Type 0
AreWithin marks = All (λ (mark : Tick). (mark.cell ≤ MAX_CELLS) × (mark.instant ≤ FOREVER)) marks

-- the labels of marks, each from its mark's cell on, then the last bound
abbrev pub labels_from : Form → Scale → ℕ → List Tick → List ℕ
labels_from form scale column [] = end_text form scale column
labels_from form scale column (mark ∷ marks) =
    replicate (mark.cell - column) 32 ++ mark_label form mark.instant
    ++ labels_from form scale (mark.cell + length (mark_label form mark.instant)) marks

-- the instants of all marks, and the last bound above the end of the scale
unfoldable pub marks_text : Form → Scale → List ℕ
marks_text form scale = labels_from form scale 0 (marks_of form scale)

-- a ruler from this cell on: `|` on the cells of the marks and at the end, else `-`
abbrev pub ruler_from : ℕ → ℕ → List Tick → List ℕ
ruler_from cells column [] = replicate (cells - column) 45 ++ 124 ∷ []
ruler_from cells column (mark ∷ marks) = replicate (mark.cell - column) 45 ++ 124 ∷ ruler_from cells (mark.cell + 1) marks

-- the ruler of the scale
unfoldable pub ruler_text : Form → Scale → List ℕ
ruler_text form scale = ruler_from scale.cells 0 (marks_of form scale)
