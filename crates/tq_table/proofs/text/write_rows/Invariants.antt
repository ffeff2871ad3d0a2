-- A line was written for each of the rows so far.
use Rattle.std.proofs.Common.{◌≤◌, ◌-◌, ℕ, List, ◌++◌, length, take}
use Rattle.tq_table.specs.Text.{rows_text}
use Rattle.tq_table.specs.Writing.{HasWritten}
use Rattle.tq_table.proofs.text.write_rows.Given as goal

abbrev pub invariant-blocks-2 : goal.invariant-blocks-2
invariant-blocks-2 l = record {
  within : l.start ≤ length l.rows;
  written : (text : List ℕ) → HasWritten l.initial.writer text → HasWritten l.writer (text ++ rows_text l.form (take l.start l.rows));
}

abbrev pub decreases-blocks-2 : goal.decreases-blocks-2
decreases-blocks-2 l = length l.rows - l.start
