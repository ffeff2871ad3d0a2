-- Rows of one width, stored one after the other in one list of values. This project's own.
use Rattle.std.specs.Prelude.{ℕ, List, [], ◌∷◌, take, drop}
use Rattle.tq_base.specs.declared.value.Value.{Value}
use Rattle.tq_base.specs.declared.fragment.Fragment.{Fragment}
use Rattle.tq_base.specs.declared.period.Period.{Period}

-- rows as contracts see them: how many values each has, and their list
pub record RowList : Type 0 where
  pub width : ℕ
  pub items : List Fragment

-- the rows that `width` values each make, one for each period
unfoldable pub rows_from : ℕ → List Value → List Period → List Fragment
rows_from width values [] = []
rows_from width values (period ∷ periods) = record { values = take width values; period = period } ∷ rows_from width (drop width values) periods
