-- A table as an HTML page: the statement, the picture as an image, and the rows as a table. This project's own, after the
-- HTML standard.
use Rattle.std.specs.Prelude.{ℕ, List, ◌++◌, codes, length, Option}
use Rattle.std.specs.List.{flat_map, range_with_len}
use Rattle.tq_base.specs.Numbers.{instant_text}
use Rattle.tq_base.specs.Relations.{row_at, values_at_number}
use Rattle.tq_base.specs.RowValues.{value_at}
use Rattle.tq_base.specs.declared.form.Form.{Form}
use Rattle.tq_base.specs.declared.fragment.Fragment.{Fragment}
use Rattle.tq_base.specs.declared.period.Period.{Period}
use Rattle.tq_base.specs.declared.value.Value.{Value}
use Rattle.tq_draw.specs.Labels.{escaped_lines, escaped_text}
use Rattle.tq_draw.specs.Scales.{shown_rows}
use Rattle.tq_draw.specs.Svg.{svg_over}
use Rattle.tq_draw.specs.Xml.{xml_text}
use Rattle.tq_table.specs.Text.{bound_field, value_field}
use Rattle.tq_table.specs.declared.table.Table.{Table}

-- the page up to its body
unfoldable pub page_head : List ℕ
page_head =
    codes "<!DOCTYPE html>\n<html>\n<head>\n<meta charset=\"utf-8\">\n<title>tq draw</title>\n<style>\n"
    ++ codes "body { font-family: sans-serif; }\ntable { border-collapse: collapse; }\n"
    ++ codes "th, td { border: 1px solid #ccc; padding: 2px 8px; text-align: left; white-space: pre; }\n"
    ++ codes "</style>\n</head>\n<body>\n"

-- a statement, with its lines
unfoldable pub statement_element : List ℕ → List ℕ
statement_element statement = codes "<pre><code>" ++ xml_text (escaped_lines statement) ++ codes "</code></pre>\n"

-- the name of a column
unfoldable pub name_cell : List ℕ → List ℕ
name_cell name = codes "<th>" ++ xml_text (escaped_text name) ++ codes "</th>"

-- a text in a row
unfoldable pub text_cell : List ℕ → List ℕ
text_cell text = codes "<td>" ++ xml_text (escaped_text text) ++ codes "</td>"

-- the value of a row in a column
abbrev pub value_cell : List Value → ℕ → List ℕ
value_cell values column = text_cell (value_field (value_at values column))

-- the start and the end of a period
unfoldable pub period_cells : Form → Period → List ℕ
period_cells form period =
    codes "<td>" ++ instant_text form period.start ++ codes "</td><td>" ++ bound_field form period.end ++ codes "</td>"

-- the line of the names
unfoldable pub names_line : List (List ℕ) → List ℕ
names_line columns = codes "<tr>" ++ flat_map name_cell columns ++ codes "<th>from</th><th>to</th></tr>\n"

-- the line of a row
unfoldable pub row_line : Form → ℕ → List Value → Period → List ℕ
row_line form columns values period =
    codes "<tr>" ++ flat_map (value_cell values) (range_with_len 0 columns) ++ period_cells form period ++ codes "</tr>\n"

-- the line of the row with this number
abbrev pub line_at : Form → ℕ → List Fragment → ℕ → List ℕ
line_at form columns rows row = row_line form columns (values_at_number rows row) (row_at rows row).period

-- the rows
unfoldable pub table_element : Form → List (List ℕ) → List Fragment → List ℕ
table_element form columns rows =
    codes "<table>\n" ++ names_line columns
    ++ flat_map (line_at form (length columns) rows) (range_with_len 0 (length rows)) ++ codes "</table>\n"

-- the page of these rows
unfoldable pub page_over : Form → ℕ → Option Period → List ℕ → List (List ℕ) → List Fragment → List ℕ
page_over form width window statement columns rows =
    page_head ++ statement_element statement ++ svg_over form width window columns rows
    ++ table_element form columns rows ++ codes "</body>\n</html>\n"

-- a table as a page: its rows in the window, and the statement that they answer
abbrev pub html_of : Form → ℕ → Option Period → List ℕ → Table → List ℕ
html_of form width window statement table = page_over form width window statement table.columns (shown_rows window table.rows)
