-- The values of the columns so far were copied, and there is room for the others.
use Rattle.std.proofs.Common.{◌≡◌, ◌+◌, ◌++◌, map, take}
use Rattle.std.specs.Prelude.{vec_capacity, vec_len}
use Rattle.tq_base.specs.RowValues.{value_at}
use Rattle.tq_base.proofs.column_view.push_values.Given as goal

abbrev pub invariant-columns : goal.invariant-columns
invariant-columns l = record {
  values : l.values.items ≡ l.initial.values.items ++ map (λ column. value_at column l.row) (take l.column-index l.columns);
  len : vec_len l.values ≡ vec_len l.initial.values + l.column-index;
  capacity : vec_capacity l.values ≡ vec_capacity l.initial.values;
}
