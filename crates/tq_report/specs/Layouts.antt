-- How the fields of a line are written: the text before each, its width and its side. This project's own.
use Rattle.std.specs.Prelude.{ℕ, ◌+◌, ◌==◌, max, Bool, true, false, if◌then◌else◌, List, [], ◌∷◌, ◌++◌, codes, decimal, length, map, slice_index_or, take}
use Rattle.std.specs.List.{count_by, fold, range_with_len}
use Rattle.std.specs.Str.{bytes_eq}
use Rattle.tq_base.specs.Contents.{Int, Text}
use Rattle.tq_base.specs.RowValues.{value_at}
use Rattle.tq_base.specs.declared.form.Form.{Form}
use Rattle.tq_base.specs.declared.fragment.Fragment.{Fragment}
use Rattle.tq_base.specs.declared.value.Value.{Value}
use Rattle.tq_draw.specs.Labels.{columns_in}
use Rattle.tq_table.specs.Amounts.{places_at}
use Rattle.tq_report.specs.Texts.{end_in, instant_in, is_dates, name_in, value_in}
use Rattle.tq_report.specs.declared.format.Format.{Format}
use Rattle.tq_report.specs.declared.format.Format.TheVariants.{Aligned, Csv, Json, JsonLines, Markdown, Tsv}
use Rattle.tq_report.specs.declared.options.ReportOptions.{ReportOptions}
use Rattle.tq_table.specs.declared.table.Table.{Table}

-- of each field of a line: the text before it, its width in columns of a terminal, and whether it is aligned to the right
pub record LayoutView : Type 0 where
  pub leads : List (List ℕ)
  pub widths : List ℕ
  pub rights : List Bool

-- the name of a column
abbrev pub name_at : List (List ℕ) → ℕ → List ℕ
name_at columns column = slice_index_or columns column []

-- how many columns before this one have its name
abbrev pub earlier : List (List ℕ) → ℕ → ℕ
earlier columns column = count_by (λ name. bytes_eq name (name_at columns column)) (take column columns)

-- the key of a column in JSON: its name; if an earlier column has the name too, also a point and a number, from 2 on
abbrev pub key_of : List (List ℕ) → ℕ → List ℕ
key_of columns column =
    if earlier columns column == 0 then name_at columns column
    else name_at columns column ++ 46 ∷ decimal (earlier columns column + 1)

-- a key as JSON has it before its value
abbrev pub key_text : List ℕ → List ℕ
key_text key = 34 ∷ (key ++ 34 ∷ 58 ∷ [])

-- the text before a field of a line, given the key of the field
abbrev pub lead_of : Format → List ℕ → List ℕ
lead_of Aligned key = 32 ∷ []
lead_of Markdown key = 32 ∷ []
lead_of Tsv key = []
lead_of Json key = key_text key
lead_of JsonLines key = key_text key
lead_of Csv key = []

-- the text before each field: those of the columns, then start and end
abbrev pub leads_of : Format → List (List ℕ) → List (List ℕ)
leads_of format columns =
    map (λ column. lead_of format (key_of columns column)) (range_with_len 0 (length columns))
    ++ (lead_of format (codes "from") ∷ lead_of format (codes "to") ∷ [])

-- a column is as wide as its longest value, or as its name
abbrev pub column_width : List ℕ → List (List ℕ) → List Fragment → ℕ → ℕ
column_width places columns rows column =
    fold (λ widest (row : Fragment). max widest (columns_in (value_in Aligned (places_at places column) (value_at row.values column))))
    (columns_in (name_in Aligned (name_at columns column))) rows

abbrev pub start_width : Form → List Fragment → ℕ
start_width form rows = fold (λ widest (row : Fragment). max widest (columns_in (instant_in Aligned form row.period.start))) 4 rows

abbrev pub end_width : Form → Bool → List Fragment → ℕ
end_width form inclusive rows = fold (λ widest (row : Fragment). max widest (columns_in (end_in Aligned form inclusive row.period.end))) 2 rows

-- the widths of all fields of the aligned format
abbrev pub aligned_widths : ReportOptions → Table → List ℕ
aligned_widths options table =
    map (column_width options.places.items table.columns table.rows) (range_with_len 0 (length table.columns))
    ++ (start_width options.form table.rows ∷ end_width options.form options.inclusive table.rows ∷ [])

-- only the aligned format has widths
abbrev pub widths_in : Format → ReportOptions → Table → List ℕ
widths_in Aligned options table = aligned_widths options table
widths_in _ options table = []

abbrev pub widths_of : ReportOptions → Table → List ℕ
widths_of options table = widths_in options.format options table

abbrev pub is_number : Value → Bool
is_number (Int number) = true
is_number (Text text) = false

-- a column has numbers if its value in the first row is one
abbrev pub has_numbers : List Fragment → ℕ → Bool
has_numbers [] column = false
has_numbers (row ∷ rows) column = is_number (value_at row.values column)

abbrev pub is_numbers : Form → Bool
is_numbers form = if is_dates form then false else true

-- numbers are aligned to the right, in the aligned format and in Markdown
abbrev pub rights_in : Form → Table → List Bool
rights_in form table =
    map (has_numbers table.rows) (range_with_len 0 (length table.columns)) ++ (is_numbers form ∷ is_numbers form ∷ [])

abbrev pub rights_of : Format → Form → Table → List Bool
rights_of Aligned form table = rights_in form table
rights_of Markdown form table = rights_in form table
rights_of _ form table = []

abbrev pub layout_of : ReportOptions → Table → LayoutView
layout_of options table = record {
  leads = leads_of options.format table.columns;
  widths = widths_of options table;
  rights = rights_of options.format options.form table;
}
