use Rattle.std.proofs.Common.{◌≡◌, take, length}
use Rattle.tq_snapshot.specs.OpenIndex.{IsOpenIndex, table_count}
use Rattle.tq_snapshot.proofs.open_index.OpenIndex.of.Given as goal

abbrev pub invariant-events : goal.invariant-events
invariant-events l = record {
  tables : table_count l.index ≡ length l.catalogue.tables;
  index : IsOpenIndex (take l.place l.events) l.index;
}
