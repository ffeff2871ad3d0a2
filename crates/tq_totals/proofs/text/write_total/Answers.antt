use Rattle.std.proofs.Common.{[], ◌++◌}
use Rattle.tq_table.proofs.WritingLemmas.{no-fields}
use Rattle.tq_totals.specs.Text.{group_fields, sum_fields}
use Rattle.tq_totals.proofs.text.write_total.Goals as goal

pub returns : goal.returns
returns c text is =
    let places = c.args.places.now in
    let values = group_fields c.args.by.now places c.args.total.now.values in
    let sums = sum_fields c.args.summed.now places c.args.total.now.sums in
    let written = rw c.get.ensures at (c.in_ok-write_group.ensures text [] (no-fields c.args.writer.now text is)) in
    c.end_line.ensures text (values ++ sums) (rw c.get-2.ensures at (c.in_ok-write_sums.ensures text values written))
