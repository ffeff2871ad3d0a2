-- The text of a table: CSV (RFC 4180) as the `csv` crate writes it by default, with lines ended by LF.
use Rattle.std.specs.Prelude.{◌≡◌, ℕ, ◌==◌, if◌then◌else◌, List, [], ◌∷◌, ◌++◌, map, codes, true}
use Rattle.std.specs.Fmt.{signed_decimal}
use Rattle.std.specs.List.{flat_map}
use Rattle.csv.specs.Writing.{default_writer, row_text, with_flexible}
use Rattle.csv.specs.declared.writer.WriterBuilder.{WriterBuilder}
use Rattle.tq_base.specs.declared.value.Value.{Value}
use Rattle.tq_base.specs.Contents.{Int, Text}
use Rattle.tq_base.specs.Numbers.{instant_text}
use Rattle.tq_base.specs.declared.form.Form.{Form}
use Rattle.tq_base.specs.declared.period.TheConstants.{FOREVER}
use Rattle.tq_base.specs.declared.fragment.Fragment.{Fragment}
use Rattle.tq_table.specs.declared.table.Table.{Table}

-- fields separated by commas, and quoted only if they contain a comma, a quote, CR or LF; quotes inside are doubled
abbrev pub answer_format : WriterBuilder
answer_format = with_flexible default_writer true

-- a number in decimal, a text as it is
abbrev pub value_field : Value → List ℕ
value_field (Int n) = signed_decimal n
value_field (Text t) = t

-- an instant as `instant_text` writes it; the last bound as `forever`
abbrev pub bound_field : Form → ℕ → List ℕ
bound_field form bound = if bound == FOREVER then codes "forever" else instant_text form bound

-- the values of a row, then the start and the end of its period
abbrev pub row_fields : Form → Fragment → List (List ℕ)
row_fields form row = map value_field row.values ++ (instant_text form row.period.start ∷ bound_field form row.period.end ∷ [])

-- the column names, then `from` and `to`
abbrev pub header_fields : List (List ℕ) → List (List ℕ)
header_fields columns = columns ++ (codes "from" ∷ codes "to" ∷ [])

-- the header line
abbrev pub header_text : List (List ℕ) → List ℕ
header_text columns = row_text answer_format (header_fields columns)

-- one line for each row
abbrev pub rows_text : Form → List Fragment → List ℕ
rows_text form rows = flat_map (λ row. row_text answer_format (row_fields form row)) rows

-- the header line, then one line for each row
abbrev pub text_of : Form → Table → List ℕ
text_of form table = header_text table.columns ++ rows_text form table.rows

-- the bytes are the text of a table that satisfies the condition
abbrev pub IsTextOf : Form → (Table → Type 0) → List ℕ → Type 0
IsTextOf form Is text = (table : Table) × Is table × (text ≡ text_of form table)
