-- Relations as contracts see them: rows of other lists, chosen by number. This project's own.
use Rattle.std.specs.Prelude.{◌≡◌, ℕ, List, ◌++◌, map, slice_index_or}
use Rattle.tq_base.specs.RowValues.{value_at}
use Rattle.tq_base.specs.declared.value.Value.{Value}
use Rattle.tq_base.specs.declared.fragment.Fragment.{Fragment}
use Rattle.tq_base.specs.declared.period.Period.{Period}
use Rattle.tq_base.specs.declared.relation.RowPeriod.{RowPeriod}
use Rattle.tq_base.specs.declared.relation.Pair.{Pair}
use Rattle.tq_base.specs.Keys.{no_row}

-- the values of the row with this number; none if there is no such row
abbrev pub values_at_number : List Fragment → ℕ → List Value
values_at_number rows number = (slice_index_or rows number no_row).values

-- the row with this number; a row without values if there is none
abbrev pub row_at : List Fragment → ℕ → Fragment
row_at rows number = slice_index_or rows number no_row

-- the value of the column in each row; a column that a row does not have counts as the number 0
abbrev pub column_of : List Fragment → ℕ → List Value
column_of rows column = map (λ (row : Fragment). value_at row.values column) rows

-- the values of the row with this number, valid in the given period
abbrev pub row_period_of : List Fragment → RowPeriod → Fragment
row_period_of rows row_period = record { values = values_at_number rows row_period.row; period = row_period.period }

-- the numbers and the periods, taken together, are these rows
abbrev pub AreRowPeriods : List RowPeriod → List ℕ → List Period → Type 0
AreRowPeriods row_periods numbers periods = (map (λ (row_period : RowPeriod). row_period.row) row_periods ≡ numbers) × (map (λ (row_period : RowPeriod). row_period.period) row_periods ≡ periods)

-- the values of the pair's left row, then those of its right row, valid in the pair's period
abbrev pub pair_of : List Fragment → List Fragment → Pair → Fragment
pair_of left right pair =
    record { values = values_at_number left pair.left ++ values_at_number right pair.right; period = pair.period }

-- the row's values in the given columns; a column that it does not have counts as the number 0
abbrev pub projected : List ℕ → Fragment → Fragment
projected columns row = record { values = map (value_at row.values) columns; period = row.period }
