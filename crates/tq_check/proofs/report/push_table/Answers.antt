use Rattle.std.proofs.Common.{◌≡◌, ◌∙◌, ℕ, List, [], ◌∷◌, ◌++◌, ap}
use Rattle.tq_base.specs.declared.period.Period.{Period}
use Rattle.tq_check.specs.Reports.{equal_rows_text, head_text, periods_of, periods_text}
use Rattle.tq_check.proofs.Joining.{joined}
use Rattle.tq_check.proofs.report.push_table.Goals as goal

pub returns : goal.returns
returns c =
    let form = c.args.form in
    let rows = c.args.rows.now.items in
    let text = c.args.text.now.items in
    let headed = c.push_head.new.text.items in
    let timed = c.push_periods.new.text.items in
    let tallied = c.push_tally.new.text.items in
    let lined = c.extend_from_slice.new.self.items in
    let head = head_text c.args.schema.now in
    let periods = periods_text form (periods_of rows) in
    let equal = equal_rows_text rows in
    let lines = c.args.lines.now in
    let end : List ℕ = 10 ∷ [] in
    let periods_are : timed ≡ headed ++ periods = c.in_ok-push_periods.ensures ∙ ap (λ (l : List Period). headed ++ periods_text form l) c.periods.ensures in
    let two = joined text head periods headed timed c.in_ok-push_head.ensures periods_are in
    let three = joined text (head ++ periods) equal timed tallied two c.in_ok-push_tally.ensures in
    let four = joined text (head ++ periods ++ equal) lines tallied lined three c.in_ok-extend_from_slice.ensures.items in
    joined text (head ++ periods ++ equal ++ lines) end lined c.push.new.self.items four c.in_ok-push.ensures.items
