use Rattle.std.specs.Prelude.{◌≢◌}
use Rattle.csv.specs.declared.writer.QuoteStyle.TheVariants as style
use Rattle.tq_table.specs.Text.{answer_format}
use Rattle.tq_table.proofs.WritingLemmas.{more-fields}
use Rattle.tq_table.proofs.writing.write_field.Goals as goal
use Rattle.tq_table.proofs.writing.write_field.Goals.{in-Ok, in-Err}

pub returns : goal.returns
returns c text fields is =
    let plain : answer_format.style ≢ style.NonNumeric = λ q. cc q in
    elim c.match-write_field.branch [
      | in-Ok w ↦
          let wrote = rw (w.in-Ok.is, is.setup) at c.write_field.ensures.wrote in
          rw w.result-is (more-fields c.args.writer.now c.write_field.new.self text fields c.args.field.now is
          (rw (w.in-Ok.is, is.setup) at c.write_field.ensures.text plain)
          (rw (w.in-Ok.is, is.setup) at c.write_field.ensures.same)
          (rw w.in-Ok.is at c.write_field.ensures.count)
          (λ e. wrote e plain)
          (rw w.in-Ok.is at c.write_field.ensures.stays))
      | in-Err w ↦ rw w.result-is tt
    ]
