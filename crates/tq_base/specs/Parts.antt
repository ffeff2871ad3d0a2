-- How a relation stores its rows: the source and the column in which each value is found. This project's own.
use Rattle.std.specs.Prelude.{ℕ, ◌+◌, ◌*◌, ◌<◌, suc, pos, cond, nat_lt, List, [], ◌∷◌, length, map, slice_index_or, Option, Some, None}
use Rattle.std.specs.Global.{Vec}
use Rattle.std.specs.List.{range_with_len}
use Rattle.tq_base.specs.declared.value.Value.{Value}
use Rattle.tq_base.specs.declared.period.Period.{Period}
use Rattle.tq_base.specs.declared.fragment.Fragment.{Fragment}
use Rattle.tq_base.specs.declared.parts.Source.{Source}
use Rattle.tq_base.specs.declared.parts.Source.TheVariants.{Lent, Made}
use Rattle.tq_base.specs.declared.parts.Part.{Part}
use Rattle.tq_base.specs.declared.parts.Place.{Place}
use Rattle.tq_base.specs.declared.relation.Periods.{Periods}
use Rattle.tq_base.specs.declared.relation.Periods.TheVariants as periods
use Rattle.tq_base.specs.Contents.{Int}
use Rattle.tq_base.specs.RowValues.{value_at}
use Rattle.tq_base.specs.Relations.{values_at_number}
use Rattle.tq_base.specs.RowLists.{RowList}

-- the rows of a source
abbrev pub source_list : Source → RowList
source_list (Lent rows) = rows.now
source_list (Made rows) = rows

-- the number in its source of the row at the place
abbrev pub number_at : Option (Vec ℕ) → ℕ → ℕ
number_at None place = place
number_at (Some numbers) place = slice_index_or numbers.items place 0

-- the number at the place; the place itself if there is no list of numbers
abbrev pub number_in : Option (List ℕ) → ℕ → ℕ
number_in None place = place
number_in (Some numbers) place = slice_index_or numbers place 0

-- the value of row `number` in a column that begins at `place` and has one value every `step` values; the number 0 if
-- there is no such row among the first `len`
abbrev pub value_there : ℕ → List Value → ℕ → ℕ → ℕ → Value
value_there rows values step place number = cond (nat_lt number rows) (value_at values (number * step + place)) (Int (pos 0))

-- these values for the numbers at the first `count` places
abbrev pub values_there : ℕ → List Value → ℕ → ℕ → Option (List ℕ) → ℕ → List Value
values_there rows values step place numbers len = map (λ k. value_there rows values step place (number_in numbers k)) (range_with_len 0 len)

-- each of the first `len` rows has a value there
abbrev pub AreThere : ℕ → List Value → ℕ → ℕ → Type 0
AreThere rows values step place = (number : ℕ) → number < rows → number * step + place < length values

-- the values of the part's row at the place
abbrev pub part_values : Part → ℕ → List Value
part_values part place = values_at_number (source_list part.source).items (number_at part.numbers place)

-- the values of the row at the place, for each part
abbrev pub rows_at : List Part → ℕ → List (List Value)
rows_at parts place = map (λ part. part_values part place) parts

-- the value of a column, given each part's row; a column without a place has the number 0
abbrev pub cell : List (List Value) → Option Place → Value
cell rows None = Int (pos 0)
cell rows (Some at) = value_at (slice_index_or rows at.part []) at.column

-- the values of a column at the first `len` places
abbrev pub column_cells : List Part → Option Place → ℕ → List Value
column_cells parts column len = map (λ place. cell (rows_at parts place) column) (range_with_len 0 len)

-- the values of the columns
abbrev pub cells : List (List Value) → List (Option Place) → List Value
cells rows columns = map (cell rows) columns

-- the rows from the place on, one for each period
unfoldable pub rows_by_number : List Part → List (Option Place) → ℕ → List Period → List Fragment
rows_by_number parts columns place [] = []
rows_by_number parts columns place (period ∷ others) =
    record { values = cells (rows_at parts place) columns; period = period } ∷ rows_by_number parts columns (suc place) others

-- the periods of the first part's source
abbrev pub first_periods : List Part → List Period
first_periods [] = []
first_periods (part ∷ parts) = map (λ (row : Fragment). row.period) (source_list part.source).items

-- the periods of the rows: those of the first part's source, or periods of their own
abbrev pub periods_of : List Part → Periods → List Period
periods_of parts periods.First = first_periods parts
periods_of parts (periods.Own list) = list.items

-- the column with this number in the first part
abbrev pub first_column : ℕ → Option Place
first_column column = Some (record { part = 0; column = column })

-- the place of the column with this number; none if there is no such column
abbrev pub chosen_column : List (Option Place) → ℕ → Option Place
chosen_column columns column = slice_index_or columns column None

-- the column, after `parts` other parts were put in front of its own
abbrev pub moved_column : ℕ → Option Place → Option Place
moved_column parts None = None
moved_column parts (Some at) = Some (record { part = at.part + parts; column = at.column })

-- the column is in one of the first `parts` parts, or has no place
abbrev pub IsIn : ℕ → Option Place → Type 0
IsIn parts None = Unit {0}
IsIn parts (Some at) = at.part < parts
