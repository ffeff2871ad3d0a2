use Rattle.std.proofs.Common.{◌+◌, ◌++◌, drop, map, option_to_list, sym, ap, ◌∙◌}
use Rattle.tq_plan.specs.Scope.{matching_columns}
use Rattle.tq_plan.specs.Views.{field_view}
use Rattle.tq_plan.proofs.ScopeLemmas.{next_field, passed_over, comes_first, two_meant, none_before}
use Rattle.tq_plan.proofs.scope.resolve.Goals as goal

pub fields-preserved-then-not-is_match : goal.fields-preserved-then-not-is_match
fields-preserved-then-not-is_match c =
    let fields = map field_view c.args.fields.now in
    let next = next_field c.args.fields.now c.fields.place c.index-fields-place.result c.fields-test.true c.index-fields-place.is in
    c.fields.invariant
    ∙ ap (λ l. option_to_list c.fields.found ++ l)
    (passed_over c.args.column.now c.fields.place (field_view c.index-fields-place.result) (drop c.fields.place fields) (drop (c.fields.place + 1) fields) next (sym c.is_match.ensures ∙ c.if-not-is_match.true))

pub returns-then-is_some-clause-fault : goal.returns-then-is_some-clause-fault
returns-then-is_some-clause-fault c known =
    let fields = map field_view c.args.fields.now in
    let next = next_field c.args.fields.now c.fields.place c.index-fields-place.result c.fields-test.true c.index-fields-place.is in
    two_meant c.fields.found (c.fields.place, c.index-fields-place.result.column.now.kind) (matching_columns c.args.column.now (c.fields.place + 1) (drop (c.fields.place + 1) fields)) (matching_columns c.args.column.now 0 fields)
    (sym c.is_some.ensures ∙ c.if-is_some.true)
    (c.fields.invariant
    ∙ ap (λ l. option_to_list c.fields.found ++ l)
    (comes_first c.args.column.now c.fields.place (field_view c.index-fields-place.result) (drop c.fields.place fields) (drop (c.fields.place + 1) fields) next (sym c.is_match.ensures ∙ c.if-not-is_match.false)))

pub fields-preserved : goal.fields-preserved
fields-preserved c =
    let fields = map field_view c.args.fields.now in
    let next = next_field c.args.fields.now c.fields.place c.index-fields-place.result c.fields-test.true c.index-fields-place.is in
    c.fields.invariant
    ∙ ap (λ l. option_to_list c.fields.found ++ l)
    (comes_first c.args.column.now c.fields.place (field_view c.index-fields-place.result) (drop c.fields.place fields) (drop (c.fields.place + 1) fields) next (sym c.is_match.ensures ∙ c.if-not-is_match.false))
    ∙ none_before c.fields.found _ (sym c.is_some.ensures ∙ c.if-is_some.false)
