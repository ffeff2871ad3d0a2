use Rattle.std.proofs.Common.{◌≡◌, length, map}
use Rattle.tq_diagnostics.specs.Hints as spec
use Rattle.tq_diagnostics.proofs.hints.of_rows.Given as goal

abbrev pub invariant-table : goal.invariant-table
invariant-table l = spec.of_rows (map (λ row. (row.0.now, (row.1.now, row.2.now))) l.table) l.before l.rest
    ≡ spec.of_rows (map (λ row. (row.0.now, (row.1.now, row.2.now))) l.fn.table) l.before l.rest

abbrev pub decreases-table : goal.decreases-table
decreases-table l = length l.table
