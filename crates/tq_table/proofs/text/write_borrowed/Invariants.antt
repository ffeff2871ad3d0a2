-- A line was written for each of the rows so far, and the values of the others are left.
use Rattle.std.proofs.Common.{◌≡◌, ◌≤◌, ℕ, List, ◌++◌, drop, length, map, take}
use Rattle.std.specs.List.{flat_map}
use Rattle.tq_base.specs.declared.fragment.Fragment.{Fragment}
use Rattle.tq_base.specs.Values.{value_ref}
use Rattle.tq_table.specs.Text.{rows_text}
use Rattle.tq_table.specs.Writing.{HasWritten}
use Rattle.tq_table.proofs.text.write_borrowed.Given as goal

abbrev pub invariant-rows : goal.invariant-rows
invariant-rows l = record {
  within : l.from ≤ length l.borrows;
  rest : map value_ref (drop l.from l.borrows) ≡ flat_map (λ (row : Fragment). row.values) (drop l.row (take l.end l.rows));
  written : (text : List ℕ) → HasWritten l.initial.writer (text ++ rows_text l.form (take l.start l.rows)) → HasWritten l.writer (text ++ rows_text l.form (take l.row l.rows));
}
