-- A table as a picture in SVG (Scalable Vector Graphics 1.1). Names, values and marks are texts, and the bar of each row is
-- a path. A column of a terminal is 9 pixels wide, a line 20 high. This project's own.
use Rattle.std.specs.Prelude.{ℕ, ◌+◌, ◌*◌, ◌==◌, max, if◌then◌else◌, List, [], ◌∷◌, ◌++◌, length, map, codes, decimal, slice_index, Option}
use Rattle.std.specs.List.{flat_map, range_with_len}
use Rattle.tq_base.specs.Numbers.{instant_text}
use Rattle.tq_base.specs.Relations.{row_at, values_at_number}
use Rattle.tq_base.specs.declared.form.Form.{Form}
use Rattle.tq_base.specs.declared.fragment.Fragment.{Fragment}
use Rattle.tq_base.specs.declared.period.Period.{Period}
use Rattle.tq_base.specs.declared.value.Value.{Value}
use Rattle.tq_draw.specs.Bars.{arrow_of, bar_of, lead_of}
use Rattle.tq_draw.specs.Labels.{column_at}
use Rattle.tq_draw.specs.Marks.{marks_text, ruler_text}
use Rattle.tq_draw.specs.Pictures.{name_label, value_label, widths_of}
use Rattle.tq_draw.specs.Scales.{room_of, scale_of, shown_rows}
use Rattle.tq_draw.specs.Xml.{xml_text}
use Rattle.tq_draw.specs.declared.scale.Scale.{Scale}
use Rattle.tq_table.specs.Text.{bound_field}
use Rattle.tq_table.specs.declared.table.Table.{Table}

-- the columns of a terminal before the value with this number, which are those that the values before it take
abbrev pub left_of : List ℕ → ℕ → ℕ
left_of widths column = length (flat_map (column_at widths (λ _. [])) (range_with_len 0 column))

-- the same of each value
abbrev pub lefts_of : List ℕ → List ℕ
lefts_of widths = map (left_of widths) (range_with_len 0 (length widths))

-- the pixels before a column of a terminal
abbrev pub x_of : ℕ → ℕ
x_of left = 9 * (left + 1)

-- a text at a place
unfoldable pub text_element : ℕ → ℕ → List ℕ → List ℕ
text_element x y text =
    codes "<text x=\"" ++ decimal x ++ codes "\" y=\"" ++ decimal y ++ codes "\">" ++ xml_text text ++ codes "</text>\n"

-- the label of a column, where the columns begin at these places
abbrev pub label_element : List ℕ → ℕ → (ℕ → List ℕ) → ℕ → List ℕ
label_element lefts y label_at column = text_element (x_of (slice_index lefts column)) y (label_at column)

-- the labels of all columns on one line
abbrev pub label_elements : List ℕ → ℕ → (ℕ → List ℕ) → List ℕ
label_elements lefts y label_at = flat_map (label_element lefts y label_at) (range_with_len 0 (length lefts))

-- the values of the row with this number
abbrev pub values_element : List ℕ → List Fragment → ℕ → List ℕ
values_element lefts rows row = label_elements lefts (20 * (row + 3)) (value_label (values_at_number rows row))

-- the values of all rows
abbrev pub values_elements : List ℕ → List Fragment → List ℕ
values_elements lefts rows = flat_map (values_element lefts rows) (range_with_len 0 (length rows))

-- a stroke as long as a cell for a filled cell, two short strokes for an arrow, a step for any other cell
abbrev pub stroke : ℕ → List ℕ
stroke byte =
    if byte == 35 then codes "h9" else
    if byte == 60 then codes "m-8 0h2m2 0h2m2 0" else
    if byte == 62 then codes "m2 0h2m2 0h2m-8 0" else codes "m9 0"

-- the strokes of a period's bar and arrows
abbrev pub strokes : Scale → Period → List ℕ
strokes scale period = flat_map stroke (lead_of scale period ++ bar_of scale period ++ arrow_of scale period)

-- the label of a value, and two spaces
abbrev pub spaced_label : List Value → ℕ → List ℕ
spaced_label values column = value_label values column ++ 32 ∷ 32 ∷ []

-- what a row says: the labels of its values, its start and its end, with two spaces between them
unfoldable pub title_text : Form → ℕ → List Value → Period → List ℕ
title_text form columns values period =
    flat_map (spaced_label values) (range_with_len 0 columns) ++ instant_text form period.start ++ 32 ∷ 32 ∷ [] ++ bound_field form period.end

-- the bar of a row from this place on, with its title
unfoldable pub bar_element : Scale → ℕ → ℕ → Period → List ℕ → List ℕ
bar_element scale x y period title =
    codes "<path d=\"M" ++ decimal x ++ codes " " ++ decimal y ++ strokes scale period
    ++ codes "\"><title>" ++ xml_text title ++ codes "</title></path>\n"

-- the bar of the row with this number, where the bars begin after `left` columns of a terminal
abbrev pub row_bar : Form → Scale → ℕ → ℕ → List Fragment → ℕ → List ℕ
row_bar form scale columns left rows row = let period = (row_at rows row).period in
    bar_element scale (x_of left) (20 * row + 55) period (title_text form columns (values_at_number rows row) period)

-- the bars of all rows
abbrev pub bar_elements : Form → Scale → ℕ → ℕ → List Fragment → List ℕ
bar_elements form scale columns left rows = flat_map (row_bar form scale columns left rows) (range_with_len 0 (length rows))

-- the image of this size in pixels, up to its texts
unfoldable pub opening : ℕ → ℕ → List ℕ
opening width height =
    codes "<svg xmlns=\"http://www.w3.org/2000/svg\" width=\"" ++ decimal width ++ codes "\" height=\"" ++ decimal height
    ++ codes "\" font-family=\"monospace\" font-size=\"15\" xml:space=\"preserve\">\n<rect width=\"100%\" height=\"100%\" fill=\"#fff\"/>\n"

-- the image of a table without rows: its names
unfoldable pub empty_image : List (List ℕ) → List ℕ → ℕ → List ℕ
empty_image columns lefts left =
    opening (9 * (left + 12)) 50
    ++ label_elements lefts 20 (name_label columns)
    ++ text_element (x_of left) 20 (codes "(no rows)")
    ++ codes "</svg>\n"

-- the image of rows over this scale: the instants of the marks, the names with a ruler, the values, and the bars
unfoldable pub image_over : Form → List (List ℕ) → List Fragment → List ℕ → ℕ → Scale → List ℕ
image_over form columns rows lefts left scale =
    opening (9 * (left + max scale.cells 24 + 3)) (20 * (length rows + 2) + 10)
    ++ text_element (x_of left) 20 (marks_text form scale)
    ++ label_elements lefts 40 (name_label columns)
    ++ text_element (x_of left) 40 (ruler_text form scale)
    ++ values_elements lefts rows
    ++ codes "<g fill=\"none\" stroke=\"#36c\" stroke-width=\"12\">\n"
    ++ bar_elements form scale (length columns) left rows
    ++ codes "</g>\n</svg>\n"

-- these rows as an image
abbrev pub svg_over : Form → ℕ → Option Period → List (List ℕ) → List Fragment → List ℕ
svg_over form width window columns rows =
    let widths = widths_of columns rows in
    let left = left_of widths (length widths) in
    if length rows == 0
    then empty_image columns (lefts_of widths) left
    else image_over form columns rows (lefts_of widths) left (scale_of form (room_of width widths) window rows)

-- a table as an image of this width in columns of a terminal, with the names, values, marks and cells of `picture_of`
abbrev pub svg_of : Form → ℕ → Option Period → Table → List ℕ
svg_of form width window table = svg_over form width window table.columns (shown_rows window table.rows)
