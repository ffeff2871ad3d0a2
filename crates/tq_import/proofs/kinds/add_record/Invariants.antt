-- The kinds so far are new, and those of the remaining fields are left.
use Rattle.std.proofs.Common.{◌≡◌, ◌++◌, drop, length, take}
use Rattle.csv.specs.Records.{fields_of}
use Rattle.tq_import.specs.Kinds.{next_kinds}
use Rattle.tq_import.proofs.kinds.add_record.Given as goal

abbrev pub invariant-places : goal.invariant-places
invariant-places l = record {
  many : length l.kinds.items ≡ length l.fn.kinds.items;
  rest : next_kinds l.format l.fn.kinds.items (fields_of l.record) ≡ take l.place l.kinds.items ++ next_kinds l.format (drop l.place l.kinds.items) (drop l.place (fields_of l.record));
}
