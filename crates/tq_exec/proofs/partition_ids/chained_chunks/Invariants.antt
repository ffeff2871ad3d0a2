-- The chunks so far.
use Rattle.std.proofs.Common.{◌≡◌, ◌++◌}
use Rattle.std.specs.Vec.Iter.{into_iter_items}
use Rattle.tq_table.specs.Sink.{bytes_of}
use Rattle.tq_exec.proofs.partition_ids.chained_chunks.Given as goal

abbrev pub invariant-chunks : goal.invariant-chunks
invariant-chunks l = record {
  reads : l.yielded ++ into_iter_items l.chunk-iterator ≡ l.fn.chunks.items;
  all : l.all.items ≡ bytes_of l.yielded;
}
