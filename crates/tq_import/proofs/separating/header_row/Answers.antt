use Rattle.std.proofs.Common.{[]}
use Rattle.csv.specs.Records.{fields_of}
use Rattle.csv.specs.Writing.{row_text}
use Rattle.tq_import.specs.Rejects.{separated_format}
use Rattle.tq_import.proofs.separating.header_row.Goals as goal

pub returns : goal.returns
returns c =
    c.rows_written.ensures c.args.delimiter (row_text (separated_format c.args.delimiter) (fields_of c.args.header.now))
    (c.in_ok-write_row.ensures c.args.delimiter [] c.row_writer-writer.ensures)
