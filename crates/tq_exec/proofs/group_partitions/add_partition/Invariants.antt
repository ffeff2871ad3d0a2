-- The rows that were appended, with those at the places that are left, are the rows of the partition.
use Rattle.std.proofs.Common.{◌≡◌, ◌<◌, ◌++◌, length, map}
use Rattle.std.specs.Prelude.{All}
use Rattle.tq_base.specs.Relations.{row_at}
use Rattle.memchr.specs.Find.{is_byte, places}
use Rattle.tq_exec.proofs.group_partitions.add_partition.Given as goal

abbrev pub invariant-rows : goal.invariant-rows
invariant-rows l = record {
  width : l.out.width ≡ l.fn.out.width;
  left : All (λ k. k < length l.rows.items) l.row-iterator;
  rows : l.out.items ++ map (row_at l.rows.items) l.row-iterator ≡ l.fn.out.items ++ map (row_at l.rows.items) (places (is_byte l.number) l.ids);
}
