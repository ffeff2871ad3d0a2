use Rattle.std.proofs.Common.{[]}
use Rattle.tq_table.specs.Text.{header_text}
use Rattle.tq_table.proofs.text.header_text.Goals as goal

pub returns : goal.returns
returns c = c.text_written.ensures (header_text c.args.columns.now) (c.in_ok-write_header.ensures [] c.line_writer-writer.ensures)
