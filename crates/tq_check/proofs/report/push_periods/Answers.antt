use Rattle.std.proofs.Common.{◌++◌}
use Rattle.tq_check.specs.Reports.{counts_text, first_text, last_text}
use Rattle.tq_check.proofs.Joining.{joined}
use Rattle.tq_check.proofs.report.push_periods.Goals as goal

pub returns : goal.returns
returns c =
    let form = c.args.form in
    let periods = c.args.periods.now in
    let text = c.args.text.now.items in
    let counts = counts_text periods in
    let first = first_text form periods in
    joined text (counts ++ first) (last_text form periods) c.push_first.new.text.items c.push_last.new.text.items
    (joined text counts first c.push_counts.new.text.items c.push_first.new.text.items c.in_ok-push_counts.ensures c.in_ok-push_first.ensures)
    c.in_ok-push_last.ensures
