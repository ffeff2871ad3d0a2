-- Totals of rows over time. This project's own.
use Rattle.std.specs.Prelude.{◌≡◌, ◌≤◌, ℕ, zero, suc, ◌+◌, ◌-◌, ◌*◌, ◌^◌, ◌==◌, ℤ, pos, ◌+ℤ◌, unsigned_abs, Bool, true, false, List, [], ◌∷◌, filter, map, Option, Some, None, ⊤, sum_by, Contains}
use Rattle.std.specs.List.{find, list_any, position}
use Rattle.std.specs.List.Sorted.{IsStrictlySortedBy}
use Rattle.std.specs.Option.{option_map}
use Rattle.std.specs.Ordering.{eq_by_cmp}
use Rattle.tq_base.specs.declared.fragment.Fragment.{Fragment}
use Rattle.tq_base.specs.declared.period.TheConstants.{FOREVER}
use Rattle.tq_base.specs.declared.value.Value.{Value}
use Rattle.tq_base.specs.Contents.{Int, Text}
use Rattle.tq_base.specs.Periods.{holds}
use Rattle.tq_base.specs.Relations.{values_at_number}
use Rattle.tq_base.specs.RowValues.{number_of, value_at}
use Rattle.tq_base.specs.ValueOrder.{values_cmp}
use Rattle.tq_totals.specs.declared.fault.TotalsFault.{TotalsFault}
use Rattle.tq_totals.specs.declared.fault.TotalsFault.TheVariants as fault
use Rattle.tq_totals.specs.declared.group_totals.Total.{Total}

-- the values of a row in the columns by which rows are grouped
abbrev pub key_of : List ℕ → Fragment → List Value
key_of by row = map (value_at row.values) by

-- the rows of the group with these values
abbrev pub group : List ℕ → List Value → List Fragment → List Fragment
group by values rows = filter (λ row. eq_by_cmp values_cmp values (key_of by row)) rows

-- the number in a column of a row
abbrev pub number_at : ℕ → Fragment → ℤ
number_at column row = number_of (value_at row.values column)

-- the sum of what the elements have
abbrev pub added : {X : Type 0} → (X → ℤ) → List X → ℤ
added weight [] = pos 0
added weight (x ∷ xs) = weight x +ℤ added weight xs

-- the sum of a column over the rows that are valid at an instant
abbrev pub sum_at : ℕ → List Fragment → ℕ → ℤ
sum_at column rows t = added (number_at column) (filter (λ row. holds row.period t) rows)

-- the sum over the first n instants
unfoldable pub over_instants : ℕ → (ℕ → ℤ) → ℤ
over_instants zero f = pos 0
over_instants (suc n) f = over_instants n f +ℤ f n

-- the total of a column: the sum, over all instants, of the column's sum over the rows that are valid then
abbrev pub total : List Fragment → ℕ → ℤ
total rows column = over_instants FOREVER (sum_at column rows)

-- the totals of the columns over a group; none if it has no row
abbrev pub totals_over : List ℕ → List Fragment → Option (List ℤ)
totals_over summed [] = None
totals_over summed (row ∷ rows) = Some (map (total (row ∷ rows)) summed)

-- the sums that are listed for the group with these values
abbrev pub sums_for : List Value → List Total → Option (List ℤ)
sums_for values totals = option_map (λ (t : Total). t.sums) (find (λ (t : Total). eq_by_cmp values_cmp values t.values) totals)

-- exactly the groups that have rows are listed, each once, in the order of their values, with their totals
pub record AreTotals (by summed : List ℕ) (rows : List Fragment) (totals : List Total) : Type 0 where
  pub ordered : IsStrictlySortedBy values_cmp (map (λ (t : Total). t.values) totals)
  pub exact : (values : List Value) → sums_for values totals ≡ totals_over summed (group by values rows)

-- at most one list has the totals of rows
abbrev pub TotalsAreUnique : Type 0
TotalsAreUnique =
    (by summed : List ℕ) (rows : List Fragment) (a b : List Total) → AreTotals by summed rows a → AreTotals by summed rows b → a ≡ b

-- whether the period of a row has no end
abbrev pub is_open : Fragment → Bool
is_open row = row.period.end == FOREVER

abbrev pub is_text : Value → Bool
is_text (Int number) = false
is_text (Text text) = true

-- whether a row has a text in a column
abbrev pub has_text : List Value → ℕ → Bool
has_text values column = is_text (value_at values column)

-- whether a row has a text in one of the columns
abbrev pub has_texts : List ℕ → Fragment → Bool
has_texts summed row = list_any (has_text row.values) summed

-- the number of the first row that passes, counted from 1
abbrev pub first_row : (Fragment → Bool) → List Fragment → Option ℕ
first_row test rows = option_map (λ row. row + 1) (position test rows)

-- the sum of the sizes of a column's numbers, each times the length of its period
abbrev pub size : List Fragment → ℕ → ℕ
size rows column = sum_by (λ (row : Fragment). unsigned_abs (number_at column row) * (row.period.end - row.period.start)) rows

-- all periods have an end, and below, there is no text in the columns
abbrev pub HaveEnds : List Fragment → Type 0
HaveEnds rows = position is_open rows ≡ None

abbrev pub HaveNumbers : List ℕ → List Fragment → Type 0
HaveNumbers summed rows = position (has_texts summed) rows ≡ None

-- what a fault says about the rows: the first row without an end; else the first row with a text, and the first column
-- in which it has one; else a summed column in which the sizes of one group add up to 2^127 or more
abbrev pub IsFault : List ℕ → List ℕ → List Fragment → TotalsFault → Type 0
IsFault by summed rows (fault.OpenEnd row) = first_row is_open rows ≡ Some row
IsFault by summed rows (fault.Text column row) =
    HaveEnds rows × (first_row (has_texts summed) rows ≡ Some row) × (find (has_text (values_at_number rows (row - 1))) summed ≡ Some column)
IsFault by summed rows (fault.Overflow column) =
    HaveEnds rows × HaveNumbers summed rows × Contains summed column × ((values : List Value) × (2 ^ 127 ≤ size (group by values rows) column))
IsFault by summed rows fault.OutOfMemory = ⊤
