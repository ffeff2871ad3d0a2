use Rattle.std.proofs.Common.{◌≡◌, [], replicate}
use Rattle.tq_event.proofs.history.no_starts.Given as goal

abbrev pub invariant-tables : goal.invariant-tables
invariant-tables l = record {
  none : l.starts.items ≡ replicate l.counter [];
}
