use Rattle.std.proofs.Common.{[]}
use Rattle.tq_table.specs.Text.{rows_text}
use Rattle.tq_table.proofs.text.rows_text.Goals as goal

pub returns : goal.returns
returns c = c.text_written.ensures (rows_text c.args.form c.args.rows.now) (c.in_ok-write_rows.ensures [] c.line_writer-writer.ensures)
