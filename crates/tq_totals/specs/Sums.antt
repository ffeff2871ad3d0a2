-- Sums row by row, as the code makes them.
use Rattle.std.specs.Prelude.{ℕ, ◌+◌, ◌-◌, ◌*◌, ◌^◌, ◌≤◌, ℤ, pos, ◌+ℤ◌, ◌*ℤ◌, unsigned_abs, List, [], ◌∷◌, map, Option, Some, None, ⊤, Contains}
use Rattle.tq_base.specs.declared.fragment.Fragment.{Fragment}
use Rattle.tq_base.specs.declared.value.Value.{Value}
use Rattle.tq_totals.specs.declared.fault.TotalsFault.{TotalsFault}
use Rattle.tq_totals.specs.declared.fault.TotalsFault.TheVariants as fault
use Rattle.tq_totals.specs.declared.sums.Sum.{Sum}
use Rattle.tq_totals.specs.declared.group_totals.Total.{Total}
use Rattle.tq_totals.specs.Totals.{added, number_at, size}

-- a number times a length, added to a sum
abbrev pub sum_more : Sum → ℤ → ℕ → Sum
sum_more sum number len = record { total = sum.total +ℤ number *ℤ pos len; size = sum.size + unsigned_abs number * len }

-- the sum of a column's numbers, each times the length of its period
abbrev pub row_total : List Fragment → ℕ → ℤ
row_total rows column = added (λ (row : Fragment). number_at column row *ℤ pos (row.period.end - row.period.start)) rows

-- this sum, and that of the sizes
abbrev pub row_sum : List Fragment → ℕ → Sum
row_sum rows column = record { total = row_total rows column; size = size rows column }

-- the sums of the columns over a group; none if it has no row
abbrev pub sums_over : List ℕ → List Fragment → Option (List Sum)
sums_over summed [] = None
sums_over summed (row ∷ rows) = Some (map (row_sum (row ∷ rows)) summed)

-- one of the columns has sizes over the rows that add up to 2^127 or more
abbrev pub IsTooLarge : List ℕ → List Fragment → ℕ → Type 0
IsTooLarge summed rows column = Contains summed column × (2 ^ 127 ≤ size rows column)

-- what a fault says of the rows of a group
abbrev pub IsSumFault : List ℕ → List Fragment → TotalsFault → Type 0
IsSumFault summed rows (fault.OpenEnd row) = ⊥
IsSumFault summed rows (fault.Text column row) = ⊥
IsSumFault summed rows (fault.Overflow column) = IsTooLarge summed rows column
IsSumFault summed rows fault.OutOfMemory = ⊤

-- the values and the sums of a total
abbrev pub total_pair : Total → List Value × List ℤ
total_pair total = (total.values, total.sums)

-- the values of a group, and the totals in its sums
abbrev pub totals_entry : List Value × List Sum → List Value × List ℤ
totals_entry entry = (entry.0, map (λ (sum : Sum). sum.total) entry.1)
