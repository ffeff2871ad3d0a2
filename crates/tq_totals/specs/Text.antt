-- The text of totals: CSV in the format of answers.
use Rattle.std.specs.Prelude.{◌≡◌, ℕ, ℤ, pos, List, [], ◌++◌, length, map, slice_index_or}
use Rattle.std.specs.List.{flat_map, range_with_len}
use Rattle.csv.specs.Writing.{row_text}
use Rattle.tq_base.specs.Contents.{Int, Text}
use Rattle.tq_base.specs.declared.fragment.Fragment.{Fragment}
use Rattle.tq_base.specs.declared.value.Value.{Value}
use Rattle.tq_table.specs.Amounts.{number_text, places_at}
use Rattle.tq_table.specs.Text.{answer_format}
use Rattle.tq_totals.specs.declared.group_totals.Total.{Total}
use Rattle.tq_totals.specs.Totals.{AreTotals}

-- the name of a column; empty if there is no such column
abbrev pub name_at : List (List ℕ) → ℕ → List ℕ
name_at columns column = slice_index_or columns column []

-- the names of the columns by which rows are grouped, then those of the summed columns
abbrev pub header_line : List (List ℕ) → List ℕ → List ℕ → List ℕ
header_line columns by summed = row_text answer_format (map (name_at columns) by ++ map (name_at columns) summed)

-- a number with this many digits after the point, or a text
abbrev pub amount_field : ℕ → Value → List ℕ
amount_field places (Int number) = number_text places number
amount_field places (Text text) = text

-- the number of digits after the point of the column at the place among these columns
abbrev pub places_of : List ℕ → List ℕ → ℕ → ℕ
places_of columns places place = places_at places (slice_index_or columns place 0)

-- the values of a group in the columns by which rows are grouped
abbrev pub group_fields : List ℕ → List ℕ → List Value → List (List ℕ)
group_fields by places values = map (λ place. amount_field (places_of by places place) (slice_index_or values place (Int (pos 0)))) (range_with_len 0 (length values))

-- the sums of a group in the summed columns
abbrev pub sum_fields : List ℕ → List ℕ → List ℤ → List (List ℕ)
sum_fields summed places sums = map (λ place. number_text (places_of summed places place) (slice_index_or sums place (pos 0))) (range_with_len 0 (length sums))

-- the values of a group, then its sums
abbrev pub total_line : List ℕ → List ℕ → List ℕ → Total → List ℕ
total_line by summed places total = row_text answer_format (group_fields by places total.values ++ sum_fields summed places total.sums)

-- the header line, then one line for each total
abbrev pub totals_text : List (List ℕ) → List ℕ → List ℕ → List ℕ → List Total → List ℕ
totals_text columns by summed places totals = header_line columns by summed ++ flat_map (total_line by summed places) totals

-- the text is that of the totals of the rows
pub record IsTotalsText (columns : List (List ℕ)) (by summed places : List ℕ) (rows : List Fragment) (text : List ℕ) : Type 0 where
  pub totals : List Total
  pub exact : AreTotals by summed rows totals
  pub written : text ≡ totals_text columns by summed places totals
