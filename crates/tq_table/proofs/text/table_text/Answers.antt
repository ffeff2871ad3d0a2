use Rattle.std.proofs.Common.{[]}
use Rattle.tq_table.specs.Text.{header_text, text_of}
use Rattle.tq_table.proofs.text.table_text.Goals as goal

pub returns : goal.returns
returns c =
    c.text_written.ensures (text_of c.args.form c.args.table.now)
    (c.in_ok-write_rows.ensures (header_text c.args.table.now.columns)
    (rw c.get.ensures at (c.in_ok-write_header.ensures [] c.line_writer-writer.ensures)))
