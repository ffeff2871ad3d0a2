use Rattle.std.proofs.Common.{◌∙◌, ap, map}
use Rattle.std.proofs.lemmas.Result.{IfOk-weaker}
use Rattle.tq_base.specs.Relations.{projected}
use Rattle.tq_base.specs.RowLists.{RowList}
use Rattle.tq_condition.specs.Ordinary.{product_of, selection}
use Rattle.tq_plan.specs.Plans.{tables_of}
use Rattle.tq_exec.specs.Answers.{lists_at}
use Rattle.tq_exec.specs.AggregateParts.{group_columns}
use Rattle.tq_exec.proofs.AggregatePartLemmas.{kept_numbers, kept_wide}
use Rattle.tq_exec.proofs.ItemLemmas.{shown_inside}
use Rattle.tq_exec.proofs.NumberLemmas.{numbers_fit, passing_numbers}
use Rattle.tq_exec.proofs.aggregate_parts.aggregate_input.Goals as goal

pub returns-clause-wide : goal.returns-clause-wide
returns-clause-wide g c =
    let columns = group_columns c.args.query.now in
    let joined_rows = c.in_ok-joined_rows.joined_rows.items in
    IfOk-weaker c.copied.result _ _
    (λ rows same. kept_wide columns joined_rows rows.items (ap (λ (r : RowList). r.items) same ∙ c.in_ok-kept.ensures.rows ∙ ap (λ d. map (projected d) joined_rows) (c.deref.ensures.value ∙ c.in_ok-columns.ensures)))
    c.copied.ensures

pub returns-clause-numbers : goal.returns-clause-numbers
returns-clause-numbers g c =
    let valid = g.S.Snapshot.valid c.args.snapshot.now in
    let query = c.args.query.now in
    let columns = group_columns query in
    let joined_rows = c.in_ok-joined_rows.joined_rows.items in
    IfOk-weaker c.copied.result _ _
    (λ rows same. kept_numbers columns joined_rows rows.items (ap (λ (r : RowList). r.items) same ∙ c.in_ok-kept.ensures.rows ∙ ap (λ d. map (projected d) joined_rows) (c.deref.ensures.value ∙ c.in_ok-columns.ensures))
    (passing_numbers valid c.args.window.now (tables_of query) query.test joined_rows c.in_ok-joined_rows.ensures.inside c.in_ok-joined_rows.ensures.outside (numbers_fit (g.S.Snapshot.catalogue c.args.snapshot.now) valid c.requires.fit)))
    c.copied.ensures

pub returns-clause-inside : goal.returns-clause-inside
returns-clause-inside g c =
    let valid = g.S.Snapshot.valid c.args.snapshot.now in
    let query = c.args.query.now in
    let columns = group_columns query in
    let joined_rows = c.in_ok-joined_rows.joined_rows.items in
    IfOk-weaker c.copied.result _ _
    (λ rows same. shown_inside columns c.args.window.now (λ t. selection query.test (product_of (lists_at valid t (tables_of query)))) joined_rows rows.items c.in_ok-joined_rows.ensures.inside
    (ap (λ (r : RowList). r.items) same ∙ c.in_ok-kept.ensures.rows ∙ ap (λ d. map (projected d) joined_rows) (c.deref.ensures.value ∙ c.in_ok-columns.ensures)))
    c.copied.ensures
