-- A table as a picture. This project's own.
use Rattle.std.specs.Prelude.{ℕ, ◌-◌, ◌==◌, nat_lt, max, if◌then◌else◌, List, [], ◌∷◌, ◌++◌, length, map, codes, slice_index_or, slice_set, Option}
use Rattle.std.specs.List.{flat_map, fold, range_with_len}
use Rattle.tq_base.specs.RowValues.{value_at}
use Rattle.tq_base.specs.declared.form.Form.{Form}
use Rattle.tq_base.specs.declared.fragment.Fragment.{Fragment}
use Rattle.tq_base.specs.declared.period.Period.{Period}
use Rattle.tq_base.specs.declared.value.Value.{Value}
use Rattle.tq_draw.specs.Bars.{arrow_of, bar_of}
use Rattle.tq_draw.specs.Labels.{columns_in, columns_text, label_of}
use Rattle.tq_draw.specs.Marks.{marks_text, ruler_text}
use Rattle.tq_draw.specs.Scales.{room_of, scale_of, shown_rows}
use Rattle.tq_draw.specs.declared.scale.Scale.{Scale}
use Rattle.tq_table.specs.Text.{value_field}
use Rattle.tq_table.specs.declared.table.Table.{Table}

-- the label of a column's name
abbrev pub name_label : List (List ℕ) → ℕ → List ℕ
name_label columns column = label_of (slice_index_or columns column [])

-- the label of a row's value in a column
abbrev pub value_label : List Value → ℕ → List ℕ
value_label values column = label_of (value_field (value_at values column))

-- a column is as wide as its widest label, which may be that of its name
abbrev pub width_of : List (List ℕ) → List Fragment → ℕ → ℕ
width_of columns rows column =
    fold (λ widest (row : Fragment). max widest (columns_in (value_label row.values column))) (columns_in (name_label columns column)) rows

-- the width of each column
abbrev pub widths_of : List (List ℕ) → List Fragment → List ℕ
widths_of columns rows = map (width_of columns rows) (range_with_len 0 (length columns))

-- the two lines above the rows: the instants of the scale, then the names of the columns and a ruler
abbrev pub head_text : Form → List (List ℕ) → List ℕ → Scale → List ℕ
head_text form columns widths scale =
    columns_text widths (λ column. []) ++ marks_text form scale ++ 10 ∷ []
    ++ columns_text widths (name_label columns) ++ ruler_text form scale ++ 10 ∷ []

-- the values of a row. If it begins before the scale, `<` stands for the last space before its bar.
abbrev pub front_text : List ℕ → Scale → Fragment → List ℕ
front_text widths scale row = let text = columns_text widths (value_label row.values) in
    if nat_lt row.period.start scale.first then slice_set text (length text - 1) 60 else text

-- the line of a row: its values and its bar
abbrev pub drawn_row : List ℕ → Scale → Fragment → List ℕ
drawn_row widths scale row = front_text widths scale row ++ bar_of scale row.period ++ arrow_of scale row.period ++ 10 ∷ []

-- these rows as a picture: the two lines above, and a line for each row. Without rows it is one line that says so.
abbrev pub picture_over : Form → ℕ → Option Period → List (List ℕ) → List Fragment → List ℕ
picture_over form width window columns rows =
    let widths = widths_of columns rows in
    let scale = scale_of form (room_of width widths) window rows in
    if length rows == 0
    then columns_text widths (name_label columns) ++ codes "(no rows)" ++ 10 ∷ []
    else head_text form columns widths scale ++ flat_map (drawn_row widths scale) rows

-- a table as a picture of this width: its rows in the window
abbrev pub picture_of : Form → ℕ → Option Period → Table → List ℕ
picture_of form width window table = picture_over form width window table.columns (shown_rows window table.rows)
