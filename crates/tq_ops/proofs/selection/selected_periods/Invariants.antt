-- The list so far is the selection of the rows so far, inside the window.
use Rattle.std.proofs.Common.{◌≡◌, ◌<◌, ℕ, List, length, map, take, sum_by}
use Rattle.std.specs.Prelude.{All}
use Rattle.std.specs.Option.{option_copied}
use Rattle.tq_base.specs.declared.relation.RowPeriod.{RowPeriod}
use Rattle.tq_base.specs.declared.value.Value.{Value}
use Rattle.tq_base.specs.Fragments.{copies}
use Rattle.tq_base.specs.Relations.{row_period_of}
use Rattle.tq_ops.proofs.Selecting.{selected}
use Rattle.tq_ops.proofs.selection.selected_periods.Given as goal

abbrev pub invariant-rows : goal.invariant-rows
invariant-rows l = record {
  within : All (λ (line : RowPeriod). line.row < length l.rows.items) l.lines.items;
  counted : (t : ℕ) (v : List Value) → copies (map (row_period_of l.rows.items) l.lines.items) v t ≡ sum_by (selected l.window (option_copied l.test) t v) (take l.number l.rows.items);
}
