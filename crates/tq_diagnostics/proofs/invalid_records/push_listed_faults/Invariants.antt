-- The remaining records are those after the ones that were read, and the text has the messages for the invalid ones of
-- these.
use Rattle.std.proofs.Common.{◌≡◌, ◌≤◌, ◌+◌, ◌++◌, ℕ, List, drop, length, take}
use Rattle.std.specs.List.{flat_map}
use Rattle.tq_event.specs.Loading.{csv_records}
use Rattle.tq_event.specs.Reading.{HasLeft}
use Rattle.tq_diagnostics.specs.InvalidRecords.{InvalidRecord, fault_text, invalid_records_from, invalid_records_of}
use Rattle.tq_diagnostics.specs.Lines.{lines_left, record_lines}
use Rattle.tq_diagnostics.proofs.invalid_records.push_listed_faults.Given as goal

abbrev pub invariant-records : goal.invariant-records
invariant-records l = record {
  left : List (List (List ℕ));
  has : HasLeft l.reader left;
  after : left ≡ drop l.before (csv_records l.bytes);
  within : l.scanner.place ≤ length l.bytes;
  early : l.scanner.line ≤ l.scanner.place + 1;
  lines : lines_left l.bytes l.scanner ≡ drop l.before (record_lines l.bytes);
  reported : List InvalidRecord;
  split : invalid_records_of l.form l.columns l.bytes ≡ reported ++ invalid_records_from l.form l.columns (l.before + 1) left;
  count : l.count ≡ length reported;
  few : l.count ≤ l.before;
  text : l.text.items ≡ l.initial.text.items ++ flat_map (fault_text l.form l.columns l.name l.bytes) (take 100 reported);
}
