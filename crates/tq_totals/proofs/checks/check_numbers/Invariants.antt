-- The rows so far have no text in the columns.
use Rattle.std.proofs.Common.{◌≡◌, ℕ, ◌<◌, false, get_or}
use Rattle.tq_base.specs.Keys.{no_row}
use Rattle.tq_totals.specs.Totals.{has_texts}
use Rattle.tq_totals.proofs.checks.check_numbers.Given as goal

abbrev pub invariant-rows : goal.invariant-rows
invariant-rows l = (k : ℕ) → k < l.row → has_texts l.summed (get_or l.rows k no_row) ≡ false
