use Rattle.std.proofs.Common.{subst}
use Rattle.tq_table.specs.Text.{header_fields}
use Rattle.tq_import.specs.Reading.{HasLeft}
use Rattle.tq_split.specs.AnswerTexts.{names_of}
use Rattle.tq_split.proofs.merging.open_part.Goals as goal

pub returns-in-Ok : goal.returns-in-Ok
returns-in-Ok g c text rows known is =
    c.in-Ok.ensures (header_fields (names_of c.args.layout.now)) rows (record {
      records = is.records;
      has = subst (HasLeft g.R.Read.remaining 44 c.record_reader.result) is.read (c.record_reader.ensures text known);
      rows_are = is.rows_are;
    })
