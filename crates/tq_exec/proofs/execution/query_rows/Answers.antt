use Rattle.std.proofs.Common.{◌≡◌, ◌∙◌, ap, sym, map}
use Rattle.std.specs.List.{list_any}
use Rattle.std.proofs.lemmas.Result.{IfOk-weaker}
use Rattle.tq_condition.specs.Ordinary.{product_of, selection}
use Rattle.tq_plan.specs.ValidPlans.{is_aggregate, no_group}
use Rattle.tq_plan.specs.Plans.{tables_of}
use Rattle.tq_exec.specs.Answers.{lists_at}
use Rattle.tq_exec.specs.OutputPlaces.{output_place}
use Rattle.tq_exec.proofs.ItemLemmas.{shown_inside, shown_outside}
use Rattle.tq_exec.proofs.PlaceLemmas.{shown_alone}
use Rattle.tq_exec.proofs.execution.query_rows.Goals as goal

pub returns-clause-inside : goal.returns-clause-inside
returns-clause-inside g c =
    let valid = g.S.Snapshot.valid c.args.snapshot.now in
    let query = c.args.query.now in
    let window = c.args.window.now in
    let places : c.deref.result.now ≡ map output_place query.outputs =
    c.deref.ensures.value ∙ c.in_ok-places.ensures ∙ ap (map output_place) c.get-3.ensures in
    IfOk-weaker c.project.result _ _
    (λ out is. shown_alone valid query window c.deref.result.now out.items
    (sym (c.has_no_group.ensures ∙ ap no_group c.get.ensures) ∙ c.if-not-has_no_group.false)
    (sym (c.has_aggregate.ensures ∙ ap (list_any is_aggregate) c.get-2.ensures) ∙ c.if-has_aggregate.false)
    places
    (shown_inside c.deref.result.now window (λ t. selection query.test (product_of (lists_at valid t (tables_of query)))) c.in_ok-scan_filter_join.field-0.items out.items
    c.in_ok-scan_filter_join.ensures.inside is))
    c.project.ensures.rows

pub returns-clause-outside : goal.returns-clause-outside
returns-clause-outside g c =
    IfOk-weaker c.project.result _ _
    (λ out is. shown_outside c.deref.result.now c.args.window.now c.in_ok-scan_filter_join.field-0.items out.items c.in_ok-scan_filter_join.ensures.outside is)
    c.project.ensures.rows
