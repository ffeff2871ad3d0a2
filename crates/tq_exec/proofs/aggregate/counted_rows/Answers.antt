use Rattle.std.proofs.lemmas.Result.{IfOk-weaker}
use Rattle.tq_base.specs.Fragments.{at}
use Rattle.tq_condition.specs.Ordinary.{product_of, selection}
use Rattle.tq_plan.specs.Plans.{tables_of}
use Rattle.tq_exec.specs.Answers.{lists_at}
use Rattle.tq_exec.proofs.BagLemmas.{same_lengths}
use Rattle.tq_exec.proofs.GroupingLemmas.{counted_inside}
use Rattle.tq_exec.proofs.aggregate.counted_rows.Goals as goal

pub returns-clause-inside : goal.returns-clause-inside
returns-clause-inside g c =
    let valid = g.S.Snapshot.valid c.args.snapshot.now in
    let query = c.args.query.now in
    let rows = c.in_ok-rows.rows.items in
    IfOk-weaker c.items_of_count.result _ _
    (λ out counted. counted_inside valid query c.args.window.now rows out.items c.requires.alone c.requires.counted c.requires.query.items
    (λ t inside. same_lengths (at rows t) (selection query.test (product_of (lists_at valid t (tables_of query)))) (λ v. c.in_ok-rows.ensures.inside t v inside))
    counted)
    c.items_of_count.ensures.inside
