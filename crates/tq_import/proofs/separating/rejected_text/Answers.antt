use Rattle.tq_import.proofs.RejectLemmas.{rows_of_rejects}
use Rattle.tq_import.proofs.separating.rejected_text.Goals as goal

pub returns-in-Rows : goal.returns-in-Rows
returns-in-Rows c rejects text held =
    let rows = rows_of_rejects rejects c.in-Rows.writer text (rw c.in-Rows.is at held) in
    c.rows_written.ensures rows.0 text rows.1
