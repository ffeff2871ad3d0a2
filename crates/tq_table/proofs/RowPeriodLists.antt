-- Rows with periods, in two lists of the same length.
use Rattle.std.proofs.Common.{◌≡◌, ◌++◌, ◌∷◌, [], ℕ, List, ap, arith, length, map, refl}
use Rattle.tq_base.specs.declared.period.Period.{Period}
use Rattle.tq_base.specs.declared.relation.RowPeriod.{RowPeriod}
use Rattle.tq_table.specs.Groups.{row_period_at, row_periods_in}

-- without rows the list is empty
pub no_lines : (periods : List Period) → row_periods_in [] periods ≡ []
unfolding row_periods_in
no_lines periods = refl

-- their numbers
pub numbers_of : (rows : List ℕ) (periods : List Period) → length rows ≡ length periods → map (λ (line : RowPeriod). line.row) (row_periods_in rows periods) ≡ rows
unfolding row_periods_in
numbers_of [] periods many = refl
numbers_of (row ∷ rows) [] many = absurd (omega (arith, many))
numbers_of (row ∷ rows) (period ∷ periods) many = ap (λ l. row ∷ l) (numbers_of rows periods (omega (arith, many)))

-- and periods
pub periods_of : (rows : List ℕ) (periods : List Period) → length rows ≡ length periods → map (λ (line : RowPeriod). line.period) (row_periods_in rows periods) ≡ periods
unfolding row_periods_in
periods_of [] [] many = refl
periods_of [] (period ∷ periods) many = absurd (omega (arith, many))
periods_of (row ∷ rows) [] many = absurd (omega (arith, many))
periods_of (row ∷ rows) (period ∷ periods) many = ap (λ l. period ∷ l) (periods_of rows periods (omega (arith, many)))

-- one more row
pub lines_put : (rows : List ℕ) (periods : List Period) (row : ℕ) (period : Period) → length rows ≡ length periods → row_periods_in (rows ++ row ∷ []) (periods ++ period ∷ []) ≡ row_periods_in rows periods ++ row_period_at row period ∷ []
unfolding row_periods_in
lines_put [] [] row period many = refl
lines_put [] (p ∷ periods) row period many = absurd (omega (arith, many))
lines_put (r ∷ rows) [] row period many = absurd (omega (arith, many))
lines_put (r ∷ rows) (p ∷ periods) row period many = ap (λ l. row_period_at r p ∷ l) (lines_put rows periods row period (omega (arith, many)))
