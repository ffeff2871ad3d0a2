use Rattle.std.proofs.Common.{◌≡◌, ◌<◌, ℕ, true, get_or}
use Rattle.std.specs.Ordering.{eq_by_cmp}
use Rattle.tq_base.specs.Relations.{values_at_number}
use Rattle.tq_base.specs.RowValues.{value_at}
use Rattle.tq_base.specs.ValueOrder.{value_cmp}
use Rattle.tq_base.specs.declared.value.Value.{Value}
use Rattle.tq_store.proofs.log.has_values.Given as goal

abbrev pub invariant-columns : goal.invariant-columns
invariant-columns l = (k : ℕ) (d : Value) → k < l.column → eq_by_cmp value_cmp (value_at (values_at_number l.rows.items l.row) k) (get_or l.values k d) ≡ true
