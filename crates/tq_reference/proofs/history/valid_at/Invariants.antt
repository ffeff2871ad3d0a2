-- The valid rows so far, and those that the events left start, are all valid rows.
use Rattle.std.proofs.Common.{◌≡◌, ◌++◌, ◌≤◌, drop}
use Rattle.tq_reference.proofs.HistoryLemmas.{valid_from}
use Rattle.tq_reference.proofs.history.valid_at.Given as goal

abbrev pub invariant-events : goal.invariant-events
invariant-events l =
    (l.rows.items ++ valid_from l.table l.instant l.number (drop l.place l.known) ≡ valid_from l.table l.instant 0 l.known)
    × (l.number ≤ l.place)
