use Rattle.std.proofs.Common.{rules}
use Rattle.tq_store.specs.Rows.{whole_window, within_window}
use Rattle.tq_tests_store.proofs.parting.list_part.Goals as goal

pub rows_of_part-requires-clause-inside : goal.rows_of_part-requires-clause-inside
rows_of_part-requires-clause-inside g =
    within_window g.window-window.result
    (whole_window g.args.db.now.events g.args.question.now.n g.args.question.now.range g.args.question.now.period)
    g.args.part.now g.window-window.ensures (search rules)
