-- The periods of the rows so far end.
use Rattle.std.proofs.Common.{ℕ, ◌<◌, get_or}
use Rattle.tq_base.specs.Keys.{no_row}
use Rattle.tq_base.specs.declared.period.TheConstants.{FOREVER}
use Rattle.tq_totals.proofs.checks.check_ends.Given as goal

abbrev pub invariant-rows : goal.invariant-rows
invariant-rows l = (k : ℕ) → k < l.row → (get_or l.rows k no_row).period.end < FOREVER
