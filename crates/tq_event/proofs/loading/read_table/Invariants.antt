-- The whole rows so far, after any entries with as many events as were counted, and the remaining records make what all
-- records make of these entries.
use Rattle.std.proofs.Common.{◌≡◌, ◌≤◌, ◌+◌, ◌++◌, ℕ, List, Ok, drop, length, map, sum_by}
use Rattle.tq_base.specs.declared.fragment.Fragment.{Fragment}
use Rattle.tq_event.specs.Entries.{Entry}
use Rattle.tq_event.specs.Projection.{projected_row}
use Rattle.tq_event.specs.Loading.{columns_of, csv_records, entries_after, event_count}
use Rattle.tq_event.specs.Reading.{HasLeft}
use Rattle.tq_event.specs.Tables.{row_entry}
use Rattle.tq_event.proofs.loading.read_table.Given as goal

abbrev pub invariant-records : goal.invariant-records
invariant-records l = record {
  columns : columns_of l.bytes ≡ Ok l.columns.items;
  width : l.rows.width ≡ length l.columns.items;
  whole : List Fragment;
  kept : l.rows.items ≡ map (projected_row l.wanted) whole;
  counted : l.events ≡ l.fn.events + sum_by event_count (map (row_entry l.table) whole);
  within : l.events ≤ l.rules.limit;
  few : l.number ≤ l.events + 2;
  left : List (List (List ℕ));
  has : HasLeft l.reader left;
  rest : (before : List Entry) → sum_by event_count before ≡ l.fn.events
      → entries_after l.rules.form l.rules.limit l.table l.columns.items 2 before (drop 1 (csv_records l.bytes)) ≡ entries_after l.rules.form l.rules.limit l.table l.columns.items l.number (before ++ map (row_entry l.table) whole) left;
}
