use Rattle.std.proofs.Common.{◌≡◌, ◌-◌, ℕ, List, drop}
use Rattle.tq_event.specs.Loading.{csv_records}
use Rattle.tq_event.specs.Reading.{HasLeft}
use Rattle.tq_diagnostics.proofs.records.read_record.Given as goal

-- the remaining records are those after the ones that were read
abbrev pub invariant-records : goal.invariant-records
invariant-records l = record {
  left : List (List (List ℕ));
  has : HasLeft l.reader left;
  after : left ≡ drop (l._before - 1) (csv_records l.bytes);
}
