use Rattle.std.proofs.Common.{◌+◌, length}
use Rattle.std.proofs.lemmas.Result.{IfOk-weaker}
use Rattle.tq_exec.specs.OutputPlaces.{item_places}
use Rattle.tq_exec.proofs.AggregatePartLemmas.{counted_one}
use Rattle.tq_exec.proofs.ItemLemmas.{shown_outside}
use Rattle.tq_exec.proofs.aggregate_parts.rows_of_counts.Goals as goal

pub returns-clause-inside : goal.returns-clause-inside
returns-clause-inside c valid window table column is counted =
    IfOk-weaker c.item_rows.result _ _
    (λ out made. counted_one valid c.args.query.now window table column c.args.counts.items out.items is c.requires.stand counted made)
    c.item_rows.ensures.rows

pub returns-clause-outside : goal.returns-clause-outside
returns-clause-outside c window none =
    let query = c.args.query.now in
    IfOk-weaker c.item_rows.result _ _
    (λ out made. shown_outside (item_places query.group (length query.group + 1) query.outputs) window c.args.counts.items out.items none made)
    c.item_rows.ensures.rows
