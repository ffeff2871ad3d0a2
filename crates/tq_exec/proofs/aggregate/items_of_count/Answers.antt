use Rattle.std.proofs.Common.{◌+◌, length}
use Rattle.std.proofs.lemmas.Result.{IfOk-weaker}
use Rattle.tq_base.specs.Fragments.{at}
use Rattle.tq_agg.specs.Grouping.{count_rows}
use Rattle.tq_exec.specs.OutputPlaces.{item_places}
use Rattle.tq_exec.proofs.ItemLemmas.{shown_inside, shown_outside}
use Rattle.tq_exec.proofs.aggregate.items_of_count.Goals as goal

pub returns-clause-inside : goal.returns-clause-inside
returns-clause-inside c =
    let query = c.args.query.now in
    IfOk-weaker c.item_rows.result _ _
    (λ out is. shown_inside (item_places query.group (length query.group + 1) query.outputs) c.args.window.now
    (λ t. count_rows (at c.args.rows.now.items t)) c.in_ok-counts.counts.items out.items c.in_ok-counts.ensures.inside is)
    c.item_rows.ensures.rows

pub returns-clause-outside : goal.returns-clause-outside
returns-clause-outside c =
    let query = c.args.query.now in
    IfOk-weaker c.item_rows.result _ _
    (λ out is. shown_outside (item_places query.group (length query.group + 1) query.outputs) c.args.window.now c.in_ok-counts.counts.items out.items c.in_ok-counts.ensures.outside is)
    c.item_rows.ensures.rows
