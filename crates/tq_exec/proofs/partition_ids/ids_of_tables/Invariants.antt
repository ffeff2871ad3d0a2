-- The partition ids of the rows of the tables so far.
use Rattle.std.proofs.Common.{◌≡◌, ◌<◌, ℕ, length, slice_index_or}
use Rattle.std.specs.Global.{Vec}
use Rattle.tq_event.specs.Tables.{lists_of, rows_in}
use Rattle.tq_exec.specs.Partitions.{IsPartitionIds, columns_in}
use Rattle.tq_exec.proofs.partition_ids.ids_of_tables.Given as goal

abbrev pub invariant-tables : goal.invariant-tables
invariant-tables g l = record {
  many : length l.ids.items ≡ l.table;
  each : (k : ℕ) (d : Vec ℕ) → k < length l.ids.items → IsPartitionIds l.cuts (columns_in l.columns k) (rows_in (lists_of l.tables) k) (slice_index_or l.ids.items k d).items;
}
