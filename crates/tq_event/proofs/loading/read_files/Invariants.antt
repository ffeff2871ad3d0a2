-- The tables and whole rows so far and the remaining files make what all files make.
use Rattle.std.proofs.Common.{◌≡◌, ◌≤◌, List, length, sum_by}
use Rattle.std.specs.Vec.Iter.{into_iter_items}
use Rattle.tq_base.specs.RowLists.{RowList}
use Rattle.tq_event.specs.Projection.{projected_from, wanted_lists}
use Rattle.tq_event.specs.Loading.{contents_after, contents_of, event_count}
use Rattle.tq_event.specs.Tables.{AreRead, entries_from}
use Rattle.tq_event.proofs.loading.read_files.Given as goal

abbrev pub invariant-files : goal.invariant-files
invariant-files l = record {
  few : length l.tables.items ≤ 16;
  read : AreRead l.tables.items l.rows.items;
  counted : l.events ≡ sum_by event_count (entries_from 0 l.rows.items);
  within : l.events ≤ l.limit;
  whole : List RowList;
  kept : l.rows.items ≡ projected_from (wanted_lists l.wanted) 0 whole;
  rest : contents_of l.form l.fn.files.items l.limit ≡ contents_after l.form l.limit (record { tables = l.tables.items; entries = entries_from 0 whole }) (into_iter_items l.file-iterator);
}
