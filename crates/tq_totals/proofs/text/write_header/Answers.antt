use Rattle.std.proofs.Common.{[], ◌++◌, map}
use Rattle.tq_totals.specs.Text.{name_at}
use Rattle.tq_table.proofs.WritingLemmas.{no-fields}
use Rattle.tq_totals.proofs.text.write_header.Goals as goal

pub returns : goal.returns
returns c text is =
    let by = map (name_at c.args.columns.now) c.args.by.now in
    let summed = map (name_at c.args.columns.now) c.args.summed.now in
    c.end_line.ensures text (by ++ summed)
    (c.in_ok-write_names-2.ensures text by (c.in_ok-write_names.ensures text [] (no-fields c.args.writer.now text is)))
