-- The lists so far were concatenated.
use Rattle.std.proofs.Common.{◌≡◌, ◌++◌}
use Rattle.std.specs.Vec.Iter.{into_iter_items}
use Rattle.tq_table.specs.Merging.{all_rows}
use Rattle.tq_table.proofs.merging.chained.Given as goal

abbrev pub invariant-lists : goal.invariant-lists
invariant-lists l = record {
  reads : l.yielded ++ into_iter_items l.rows-iterator ≡ l.fn.lists.items;
  width : l.all.width ≡ l.width;
  rows : l.all.items ≡ all_rows l.yielded;
}
