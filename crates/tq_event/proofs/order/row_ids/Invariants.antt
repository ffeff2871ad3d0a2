use Rattle.std.proofs.Common.{◌≡◌, map, take}
use Rattle.tq_event.proofs.RowIdLemmas.{place_of}
use Rattle.tq_event.proofs.order.row_ids.Given as goal

abbrev pub invariant-loop-entry : goal.invariant-loop-entry
invariant-loop-entry l = l.places.items ≡ map place_of (take l.entry-index l.entries)
