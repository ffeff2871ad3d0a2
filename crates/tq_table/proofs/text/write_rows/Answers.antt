use Rattle.std.proofs.Common.{◌++◌, arith, subst}
use Rattle.std.proofs.lemmas.List.{take_all}
use Rattle.tq_table.specs.Text.{rows_text}
use Rattle.tq_table.specs.Writing.{HasWritten}
use Rattle.tq_table.proofs.text.write_rows.Goals as goal

pub blocks-2-preserved : goal.blocks-2-preserved
blocks-2-preserved c = record {
  within = omega (arith, c.min-end.ensures, c.len-in-blocks-2.ensures);
  written = λ text is. c.in_ok-write_borrowed.ensures text (c.blocks-2.invariant.written text is);
}

pub returns : goal.returns
returns c text is =
    subst (λ l. HasWritten c.blocks-2.writer (text ++ rows_text c.args.form l))
    (take_all c.blocks-2.start c.args.rows.now (omega (arith, c.blocks-2-test.false, c.len.ensures)))
    (c.blocks-2.invariant.written text is)
