-- The remaining records are those after the ones that were read, and the count so far is that of the ones that were
-- read.
use Rattle.std.proofs.Common.{◌≡◌, ◌≤◌, ◌+◌, max, ℕ, List, count_by, drop}
use Rattle.tq_event.specs.Loading.{csv_records}
use Rattle.tq_event.specs.Reading.{HasLeft}
use Rattle.tq_diagnostics.specs.Faults.{invalid_after, is_invalid}
use Rattle.tq_diagnostics.proofs.faults.invalid_after.Given as goal

abbrev pub invariant-records : goal.invariant-records
invariant-records l = record {
  left : List (List (List ℕ));
  has : HasLeft l.reader left;
  after : left ≡ drop l.before (csv_records l.bytes);
  counted : l.count + count_by (is_invalid l.form l.columns) (drop (max l.number l.before) (csv_records l.bytes)) ≡ invalid_after l.form l.columns l.bytes l.number;
  few : l.count ≤ l.before;
}
