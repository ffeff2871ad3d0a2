-- Access to the values of a row by place. This project's own.
use Rattle.std.specs.Prelude.{ℕ, ℤ, pos, List, slice_index_or}
use Rattle.tq_base.specs.declared.value.Value.{Value}
use Rattle.tq_base.specs.Contents.{Int, Text}

-- the value at a place of a row; a place that the row does not have counts as the number 0
abbrev pub value_at : List Value → ℕ → Value
value_at row place = slice_index_or row place (Int (pos 0))

-- the number of a value; a text counts as 0
abbrev pub number_of : Value → ℤ
number_of (Int n) = n
number_of (Text t) = pos 0
