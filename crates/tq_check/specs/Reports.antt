-- The summary of tables, as text. This project's own.
use Rattle.std.specs.Prelude.{◌≡◌, ℕ, ◌==◌, if◌then◌else◌, List, [], ◌∷◌, ◌++◌, codes, decimal, length, map}
use Rattle.std.specs.List.{flat_map}
use Rattle.tq_base.specs.Numbers.{instant_text}
use Rattle.tq_base.specs.RowLists.{RowList}
use Rattle.tq_base.specs.declared.catalogue.Column.{Column}
use Rattle.tq_base.specs.declared.catalogue.Kind.{Kind}
use Rattle.tq_base.specs.declared.catalogue.Kind.TheVariants.{Int, Text}
use Rattle.tq_base.specs.declared.catalogue.Schema.{Schema}
use Rattle.tq_base.specs.declared.form.Form.{Form}
use Rattle.tq_base.specs.declared.fragment.Fragment.{Fragment}
use Rattle.tq_base.specs.declared.period.Period.{Period}
use Rattle.tq_check.specs.EqualRows.{meeting, overlapping}
use Rattle.tq_check.specs.KeyReports.{IsKeyText}
use Rattle.tq_check.specs.Numbers.{first_start, last_change, open_periods}
use Rattle.tq_check.specs.declared.key_report.KeyChecks.{KeyChecks}

-- the kind of a column, as a header writes it
abbrev pub kind_text : Kind → List ℕ
kind_text Int = codes "int"
kind_text Text = codes "text"

-- a column as a header writes it, after a space
abbrev pub column_text : Column → List ℕ
column_text column = 32 ∷ column.name ++ 58 ∷ kind_text column.kind

-- an instant; `none` if there are no periods
abbrev pub time_text : Form → List Period → ℕ → List ℕ
time_text form periods number = if length periods == 0 then codes "none" else instant_text form number

-- the table and its columns
abbrev pub head_text : Schema → List ℕ
head_text schema = codes "table " ++ schema.name ++ codes "\n  columns     " ++ flat_map column_text schema.columns

-- how many rows there are, and how many have no end
abbrev pub counts_text : List Period → List ℕ
counts_text periods =
    codes "\n  rows         " ++ decimal (length periods)
    ++ codes "\n  open         " ++ decimal (open_periods periods)

-- the start of the first row
abbrev pub first_text : Form → List Period → List ℕ
first_text form periods = codes "\n  first start  " ++ time_text form periods (first_start periods)

-- the time of the last change
abbrev pub last_text : Form → List Period → List ℕ
last_text form periods = codes "\n  last change  " ++ time_text form periods (last_change periods)

-- the lines about the periods of the rows
abbrev pub periods_text : Form → List Period → List ℕ
periods_text form periods = counts_text periods ++ first_text form periods ++ last_text form periods

-- how many rows overlap an earlier equal row, and how many meet an equal row
abbrev pub equal_rows_text : List Fragment → List ℕ
equal_rows_text rows =
    codes "\n  overlapping  " ++ decimal (overlapping rows)
    ++ codes "\n  meeting      " ++ decimal (meeting rows)

-- the periods of rows
abbrev pub periods_of : List Fragment → List Period
periods_of rows = map (λ (row : Fragment). row.period) rows

-- the summary of a table with these rows; `lines` are those about the rows of one key
abbrev pub table_text : Form → Schema → List Fragment → List ℕ → List ℕ
table_text form schema rows lines =
    head_text schema ++ periods_text form (periods_of rows) ++ equal_rows_text rows ++ lines ++ 10 ∷ []

-- the text is the summaries of the tables, in their order
unfoldable pub IsSummaryOf : Form → KeyChecks → List Schema → List RowList → List ℕ → Type 0
IsSummaryOf form keys (schema ∷ schemas) (rows ∷ tables) text =
    (lines : List ℕ) × (rest : List ℕ) × IsKeyText form keys rows.items lines
    × IsSummaryOf form keys schemas tables rest × (text ≡ table_text form schema rows.items lines ++ rest)
IsSummaryOf form keys schemas tables text = text ≡ []
