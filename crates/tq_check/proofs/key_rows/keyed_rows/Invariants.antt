-- The rows so far, and those to come, are all rows.
use Rattle.std.proofs.Common.{◌≡◌, ◌++◌, drop}
use Rattle.tq_check.specs.KeyRows.{keyed_from, keyed_rows}
use Rattle.tq_check.proofs.key_rows.keyed_rows.Given as goal

abbrev pub invariant-places : goal.invariant-places
invariant-places l = l.all.items ++ keyed_from l.place (drop l.place l.rows.items) ≡ keyed_rows l.fn.rows.items
