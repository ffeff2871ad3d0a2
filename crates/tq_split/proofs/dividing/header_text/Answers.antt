use Rattle.std.proofs.Common.{◌≡◌, [], Bool, subst, sym}
use Rattle.std.specs.Prelude.{IfOk}
use Rattle.csv.specs.Records.{fields_of}
use Rattle.csv.specs.Writing.{row_text}
use Rattle.tq_table.specs.Text.{answer_format}
use Rattle.tq_split.specs.TableParts.{header_text}
use Rattle.tq_split.proofs.dividing.header_text.Goals as goal

pub returns : goal.returns
returns c =
    let fields = fields_of c.args.header.now in
    subst (λ (b : Bool). IfOk c.text_written.result (λ text. text.items ≡ header_text b fields)) (sym c.if-not-begins.false)
    (c.text_written.ensures (row_text answer_format fields) (c.in_ok-write_line.ensures [] c.line_writer-writer.ensures))
