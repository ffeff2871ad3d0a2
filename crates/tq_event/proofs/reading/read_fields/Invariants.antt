-- The whole values so far and the remaining columns and fields make the values of all fields. The wanted ones were
-- kept, and there is room for the others.
use Rattle.std.proofs.Common.{◌≡◌, ◌≤◌, ◌+◌, List, [], drop, length}
use Rattle.std.specs.Prelude.{vec_capacity, vec_len}
use Rattle.csv.specs.Records.{fields_of}
use Rattle.tq_base.specs.declared.value.Value.{Value}
use Rattle.tq_event.specs.Projection.{projected_values}
use Rattle.tq_event.specs.Loading.{values_after}
use Rattle.tq_event.proofs.reading.read_fields.Given as goal

abbrev pub invariant-columns : goal.invariant-columns
invariant-columns l = record {
  room : vec_len l.values + length l.columns ≤ vec_capacity l.values + l.place;
  as_many : length l.values.items ≡ l.place;
  whole : List Value;
  many : length whole ≡ l.place;
  kept : l.values.items ≡ projected_values l.wanted whole;
  rest : values_after [] l.columns (fields_of l.record) ≡ values_after whole (drop l.place l.columns) (drop l.place (fields_of l.record));
}
