-- The row has no text in the columns so far.
use Rattle.std.proofs.Common.{◌≡◌, drop}
use Rattle.std.specs.List.{find}
use Rattle.tq_totals.specs.Totals.{has_text}
use Rattle.tq_totals.proofs.checks.text_column.Given as goal

abbrev pub invariant-columns : goal.invariant-columns
invariant-columns l = find (has_text l.row) l.summed ≡ find (has_text l.row) (drop l.column-index l.summed)
