use Rattle.std.proofs.Common.{[]}
use Rattle.csv.specs.Writing.{row_text}
use Rattle.tq_table.specs.Text.{answer_format}
use Rattle.tq_import.specs.Imports.{table_header}
use Rattle.tq_import.proofs.writing.header_text.Goals as goal

pub returns : goal.returns
returns c =
    c.text_written.ensures (row_text answer_format (table_header c.args.plan.now))
    (rw c.in_ok-fields.ensures at (c.in_ok-write_line.ensures [] c.line_writer-writer.ensures))
