-- Groups of rows, how many rows they have, and sums of their values, after SQL over bags.
use Rattle.std.specs.Prelude.{ℕ, ℤ, pos, ◌+ℤ◌, Bool, not, FitsSigned, List, [], ◌∷◌, ◌++◌, length, map, filter, All}
use Rattle.std.specs.Int.{w64}
use Rattle.std.specs.Ordering.{eq_by_cmp}
use Rattle.tq_base.specs.declared.value.Value.{Value}
use Rattle.tq_base.specs.Contents.{Int}
use Rattle.tq_base.specs.ValueOrder.{values_cmp}
use Rattle.tq_base.specs.RowValues.{number_of, value_at}
use Rattle.tq_condition.specs.Ordinary.{projection}

abbrev pub Row : Type 0
Row = List Value

abbrev pub same_row : Row → Row → Bool
same_row = eq_by_cmp values_cmp

-- each row of a list once
abbrev pub each_once : List Row → List Row
each_once [] = []
each_once (row ∷ rows) = row ∷ filter (λ other. not (same_row other row)) (each_once rows)

-- the rows of each key (GROUP BY); with no places all rows have one key
abbrev pub grouped_by : List ℕ → List Row → List (List Row)
grouped_by places rows = map (λ key. filter (λ row. same_row (projection places row) key) rows) (each_once (map (projection places) rows))

-- the sum of the values at a place
abbrev pub sum_at : ℕ → List Row → ℤ
sum_at place [] = pos 0
sum_at place (row ∷ rows) = number_of (value_at row place) +ℤ sum_at place rows

abbrev pub first_row : List Row → Row
first_row [] = []
first_row (row ∷ rows) = row

-- the row that a group makes: its key, how many rows it has (COUNT(*)), and its sums (SUM)
abbrev pub group_row : List ℕ → List ℕ → List Row → Row
group_row keys sums group =
    projection keys (first_row group) ++ Int (pos (length group)) ∷ map (λ place. Int (sum_at place group)) sums

-- the rows that the groups make
abbrev pub grouped_rows : List ℕ → List ℕ → List Row → List Row
grouped_rows keys sums rows = map (group_row keys sums) (grouped_by keys rows)

-- how many rows there are, as the one row of an answer
abbrev pub count_rows : List Row → List Row
count_rows rows = (Int (pos (length rows)) ∷ []) ∷ []

-- the values at the places are numbers of 64 signed bits, or texts
abbrev pub AreSummable : List ℕ → Row → Type 0
AreSummable places row = All (λ place. FitsSigned w64 (number_of (value_at row place))) places
