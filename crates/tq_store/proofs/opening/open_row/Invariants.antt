use Rattle.std.proofs.Common.{◌≡◌, ◌≤◌, drop}
use Rattle.tq_store.proofs.OpenLemmas.{first_from}
use Rattle.tq_store.proofs.opening.open_row.Given as goal

abbrev pub invariant-events : goal.invariant-events
invariant-events l = record {
  rest : first_from l.table 0 l.values l.at l.events ≡ first_from l.table l.row l.values l.at (drop l.place l.events);
  few : l.row ≤ l.place;
}
