-- Answers as table files, which have the kinds of their columns, and a key in front. This project's own.
use Rattle.std.specs.Prelude.{ℕ, ◌+◌, List, [], ◌∷◌, ◌++◌, codes, decimal, length, map, slice_index_or}
use Rattle.std.specs.List.{flat_map, range_with_len}
use Rattle.csv.specs.Writing.{row_text}
use Rattle.tq_base.specs.Keys.{no_row}
use Rattle.tq_base.specs.declared.catalogue.Column.{Column}
use Rattle.tq_base.specs.declared.catalogue.Kind.{Kind}
use Rattle.tq_base.specs.declared.catalogue.Kind.TheVariants as kind
use Rattle.tq_base.specs.declared.form.Form.{Form}
use Rattle.tq_base.specs.declared.fragment.Fragment.{Fragment}
use Rattle.tq_table.specs.Text.{answer_format, row_fields}

abbrev pub kind_word : Kind → List ℕ
kind_word kind.Int = codes ":int"
kind_word kind.Text = codes ":text"

-- `NAME:int` or `NAME:text`
abbrev pub typed_name : Column → List ℕ
typed_name column = column.name ++ kind_word column.kind

-- the key, the columns with their kinds, then `from` and `to`
abbrev pub typed_header : List Column → List (List ℕ)
typed_header columns = codes "row:int" ∷ (map typed_name columns ++ (codes "from" ∷ codes "to" ∷ []))

-- the number of a row, then its fields in an answer
abbrev pub typed_fields : Form → ℕ → Fragment → List (List ℕ)
typed_fields form number row = decimal number ∷ row_fields form row

-- the line of the row at a place; rows are numbered from 1
abbrev pub typed_line : Form → List Fragment → ℕ → List ℕ
typed_line form rows place = row_text answer_format (typed_fields form (place + 1) (slice_index_or rows place no_row))

abbrev pub typed_rows : Form → List Fragment → List ℕ
typed_rows form rows = flat_map (typed_line form rows) (range_with_len 0 (length rows))

-- the header line, then one line for each row
abbrev pub typed_text_of : Form → List Column → List Fragment → List ℕ
typed_text_of form columns rows = row_text answer_format (typed_header columns) ++ typed_rows form rows
