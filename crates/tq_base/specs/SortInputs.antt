-- The input of a sort as contracts see it. This project's own.
use Rattle.tq_base.specs.declared.sort_input.SortInput.{SortInput}
use Rattle.tq_base.specs.Keys.{SortInputState}

abbrev pub state_of : SortInput → SortInputState
state_of s = record { left = s.left.now.items; right = s.right.now.items; left_columns = s.left_columns.now; right_columns = s.right_columns.now }
