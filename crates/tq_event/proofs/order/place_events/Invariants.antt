use Rattle.std.proofs.Common.{◌≡◌, map}
use Rattle.tq_event.specs.Entries.{Entry, entry_in}
use Rattle.tq_event.proofs.RowIdLemmas.{Placing, rows_in, tables_in}
use Rattle.tq_event.proofs.order.place_events.Given as goal

abbrev pub invariant-marks : goal.invariant-marks
invariant-marks l = record {
  placing : Placing (map entry_in l.fn.entries.items) l.marks l.tables l.endpoint-index (map entry_in l.entries.items) (rows_in l.places.items) l.next_rows.items l.events.items;
  tables : tables_in l.places.items ≡ map (λ (x : Entry). x.table) (map entry_in l.fn.entries.items);
}
