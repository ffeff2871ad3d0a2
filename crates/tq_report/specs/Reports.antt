-- The text of a table in each format. This project's own.
use Rattle.std.specs.Prelude.{ℕ, ◌+◌, ◌-◌, ◌==◌, Bool, false, if◌then◌else◌, List, [], ◌∷◌, ◌++◌, codes, length, replicate, slice_index_or}
use Rattle.std.specs.List.{flat_map, range_with_len}
use Rattle.tq_base.specs.Keys.{no_row}
use Rattle.tq_base.specs.RowValues.{value_at}
use Rattle.tq_base.specs.declared.fragment.Fragment.{Fragment}
use Rattle.tq_base.specs.declared.value.Value.{Value}
use Rattle.tq_draw.specs.Labels.{columns_in}
use Rattle.tq_report.specs.Layouts.{LayoutView, layout_of, name_at}
use Rattle.tq_table.specs.Amounts.{places_at}
use Rattle.tq_report.specs.Texts.{end_in, instant_in, name_in, value_in}
use Rattle.tq_report.specs.declared.format.Format.{Format}
use Rattle.tq_report.specs.declared.format.Format.TheVariants.{Aligned, Csv, Json, JsonLines, Markdown, Tsv}
use Rattle.tq_report.specs.declared.options.ReportOptions.{ReportOptions}
use Rattle.tq_table.specs.declared.table.Table.{Table}

-- a text with spaces on one side, up to the width
abbrev pub padded : ℕ → Bool → List ℕ → List ℕ
padded width right text =
    if right then replicate (width - columns_in text) 32 ++ text else text ++ replicate (width - columns_in text) 32

-- the text of a field after what comes before it; only the aligned format pads it
abbrev pub cell_text : Format → LayoutView → ℕ → List ℕ → List ℕ
cell_text Aligned layout field text = padded (slice_index_or layout.widths field 0) (slice_index_or layout.rights field false) text
cell_text _ layout field text = text

-- a field of a line
abbrev pub field_text : Format → LayoutView → ℕ → List ℕ → List ℕ
field_text format layout field text = slice_index_or layout.leads field [] ++ cell_text format layout field text

-- what begins a line, what ends a field, and what ends a line
abbrev pub open_text : Format → List ℕ
open_text Aligned = codes "|"
open_text Markdown = codes "|"
open_text Tsv = []
open_text Json = codes "{"
open_text JsonLines = codes "{"
open_text Csv = []

abbrev pub tail_text : Format → List ℕ
tail_text Aligned = codes " |"
tail_text Markdown = codes " |"
tail_text Tsv = 9 ∷ []
tail_text Json = codes ","
tail_text JsonLines = codes ","
tail_text Csv = codes ","

abbrev pub close_text : Format → List ℕ
close_text Aligned = codes " |\n"
close_text Markdown = codes " |\n"
close_text Tsv = codes "\n"
close_text Json = codes "}"
close_text JsonLines = codes "}\n"
close_text Csv = codes "\n"

-- the field of a column, with what ends it
abbrev pub column_text : Format → LayoutView → (ℕ → List ℕ) → ℕ → List ℕ
column_text format layout text_at column = field_text format layout column (text_at column) ++ tail_text format

-- a line with the text of each column, then those of start and end
abbrev pub line_text : Format → LayoutView → ℕ → (ℕ → List ℕ) → List ℕ → List ℕ → List ℕ
line_text format layout columns text_at start end =
    open_text format ++ flat_map (column_text format layout text_at) (range_with_len 0 columns)
    ++ field_text format layout columns start ++ tail_text format ++ field_text format layout (columns + 1) end ++ close_text format

-- the line of the names
abbrev pub names_text : Format → LayoutView → List (List ℕ) → List ℕ
names_text format layout columns =
    line_text format layout (length columns) (λ column. name_in format (name_at columns column)) (codes "from") (codes "to")

-- the value of a row in a column
abbrev pub value_text : ReportOptions → List Value → ℕ → List ℕ
value_text options values column = value_in options.format (places_at options.places.items column) (value_at values column)

-- the line of a row
abbrev pub row_text : ReportOptions → LayoutView → ℕ → Fragment → List ℕ
row_text options layout columns row =
    line_text options.format layout columns (value_text options row.values)
    (instant_in options.format options.form row.period.start) (end_in options.format options.form options.inclusive row.period.end)

-- a comma and a line feed between two rows of an array
abbrev pub between : Format → ℕ → List ℕ
between Json row = if row == 0 then [] else codes ",\n"
between _ row = []

-- the row with this number, and what separates it from the row before
abbrev pub row_at : ReportOptions → LayoutView → ℕ → List Fragment → ℕ → List ℕ
row_at options layout columns rows row = between options.format row ++ row_text options layout columns (slice_index_or rows row no_row)

abbrev pub rows_text : ReportOptions → LayoutView → ℕ → List Fragment → List ℕ
rows_text options layout columns rows = flat_map (row_at options layout columns rows) (range_with_len 0 (length rows))

-- as many hyphens as a field and the spaces around it take, and a corner
abbrev pub dashes : ℕ → List ℕ
dashes width = replicate width 45 ++ codes "--+"

-- the line of the aligned format between names and rows
abbrev pub dashes_text : LayoutView → List ℕ
dashes_text layout = 43 ∷ (flat_map dashes layout.widths ++ 10 ∷ [])

-- that of Markdown, which says how each column is aligned
abbrev pub alignment : Bool → List ℕ
alignment right = if right then codes "---:|" else codes "---|"

abbrev pub alignments_text : LayoutView → List ℕ
alignments_text layout = 124 ∷ (flat_map alignment layout.rights ++ 10 ∷ [])

-- what comes before the rows
abbrev pub head_text : Format → LayoutView → List (List ℕ) → List ℕ
head_text Aligned layout columns = dashes_text layout ++ names_text Aligned layout columns ++ dashes_text layout
head_text Markdown layout columns = names_text Markdown layout columns ++ alignments_text layout
head_text Tsv layout columns = names_text Tsv layout columns
head_text Json layout columns = codes "["
head_text JsonLines layout columns = []
head_text Csv layout columns = names_text Csv layout columns

-- what comes after the rows
abbrev pub foot_text : Format → LayoutView → ℕ → List ℕ
foot_text Aligned layout rows = if rows == 0 then [] else dashes_text layout
foot_text Json layout rows = codes "]\n"
foot_text _ layout rows = []

-- a table, written as the options say
abbrev pub report_of : ReportOptions → Table → List ℕ
report_of options table =
    let layout = layout_of options table in
    head_text options.format layout table.columns ++ rows_text options layout (length table.columns) table.rows
    ++ foot_text options.format layout (length table.rows)
