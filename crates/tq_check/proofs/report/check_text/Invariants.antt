-- If some text is the summaries of the tables to come, the text so far and then that text are all summaries.
use Rattle.std.proofs.Common.{List, ℕ, ◌++◌, drop}
use Rattle.tq_check.specs.Reports.{IsSummaryOf}
use Rattle.tq_check.proofs.report.check_text.Given as goal

abbrev pub invariant-tables : goal.invariant-tables
invariant-tables l =
    (rest : List ℕ) → IsSummaryOf l.form l.keys (drop l.table l.schemas) (drop l.table l.rows) rest
    → IsSummaryOf l.form l.keys l.fn.tables.catalogue.tables l.fn.tables.rows (l.text.items ++ rest)
