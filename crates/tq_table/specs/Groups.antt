-- Groups of rows with equal values: the order of their keys, and the rows with periods that are made of them. This
-- project's own.
use Rattle.std.specs.Prelude.{◌≡◌, ℕ, List, [], ◌∷◌, All, IsPermutation, map}
use Rattle.tq_base.specs.declared.period.Period.{Period}
use Rattle.tq_base.specs.declared.relation.RowPeriod.{RowPeriod}
use Rattle.tq_base.specs.declared.sort_input.SortKey.{SortKey}
use Rattle.tq_base.specs.declared.sort_input.Side.TheVariants as side
use Rattle.tq_base.specs.Keys.{key_row, HaveRunStarts, IsSortKey, Rises, SortInputState}

-- one key for each row of the left, ordered by their values
pub record AreByValues (s : SortInputState) (keys : List SortKey) : Type 0 where
  pub rows : IsPermutation s.left (map (key_row s) keys)
  pub left : All (λ k. k.side ≡ side.Left) keys
  pub keys_are : All (IsSortKey s) keys
  pub run_starts : HaveRunStarts s keys
  pub rises : Rises s keys

-- the row with this number, valid in the period
abbrev pub row_period_at : ℕ → Period → RowPeriod
row_period_at row period = record { row = row; period = period }

-- the rows with these numbers, each valid in the period at its place
unfoldable pub row_periods_in : List ℕ → List Period → List RowPeriod
row_periods_in [] periods = []
row_periods_in (row ∷ rows) [] = []
row_periods_in (row ∷ rows) (period ∷ periods) = row_period_at row period ∷ row_periods_in rows periods
