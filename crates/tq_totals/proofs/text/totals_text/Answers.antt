use Rattle.std.proofs.Common.{[]}
use Rattle.tq_totals.specs.Text.{header_line, totals_text}
use Rattle.tq_totals.proofs.text.totals_text.Goals as goal

pub returns : goal.returns
returns c =
    c.text_written.ensures (totals_text c.args.columns.now c.args.by.now c.args.summed.now c.args.places.now c.args.totals.now)
    (c.in_ok-write_totals.ensures (header_line c.args.columns.now c.args.by.now c.args.summed.now)
    (c.in_ok-write_header.ensures [] c.line_writer-writer.ensures))
