-- The endpoints so far and those of the remaining entries are all endpoints.
use Rattle.std.proofs.Common.{◌≡◌, ◌++◌, drop, map}
use Rattle.tq_event.specs.Entries.{entry_in}
use Rattle.tq_event.specs.Loading.{endpoints_from}
use Rattle.tq_event.proofs.order.endpoints_of.Given as goal

abbrev pub invariant-entries : goal.invariant-entries
invariant-entries l = endpoints_from 0 (map entry_in l.entries) ≡ l.marks.items ++ endpoints_from l.place (map entry_in (drop l.place l.entries))
