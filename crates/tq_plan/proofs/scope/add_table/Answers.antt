use Rattle.std.proofs.Common.{◌≡◌, ◌++◌, ◌∷◌, [], length, map, sym, ap, ◌∙◌, arith}
use Rattle.std.proofs.lemmas.List.{length-map, map-append}
use Rattle.std.specs.List.{list_any}
use Rattle.std.specs.Str.{bytes_eq}
use Rattle.tq_plan.specs.Scope.{source_of}
use Rattle.tq_plan.specs.Views.{field_view, sources_view}
use Rattle.tq_plan.proofs.ScopeLemmas.{added, lent, taken}
use Rattle.tq_plan.proofs.scope.add_table.Goals as goal

pub returns-then-has_alias-clause-fault : goal.returns-then-has_alias-clause-fault
returns-then-has_alias-clause-fault c known =
    taken (sources_view c.args.scope.now) c.args.alias.now c.args.table c.args.schema.now
    (lent c.args.alias.now c.args.scope.now.aliases.items
    ∙ ap (list_any (λ earlier. bytes_eq earlier.now c.args.alias.now)) (sym c.deref.ensures.value) ∙ sym c.has_alias.ensures ∙ c.if-has_alias.true)

pub returns-clause-added : goal.returns-clause-added
returns-clause-added c =
    let fields = c.args.scope.now.fields.items in
    let many : length (map field_view fields) ≡ c.len.result = omega (arith, length-map fields field_view, c.len.ensures, c.args.scope.now.fields.ok.0) in
    let one : source_of c.args.table (length (map field_view fields)) c.args.schema.now.columns ≡ c.in_ok-source.source =
    (λ i. source_of c.args.table (many i) (sym c.get.ensures i)) ∙ sym c.in_ok-source.ensures.source in
    added (sources_view c.args.scope.now) _ c.args.alias.now c.args.table c.args.schema.now
    (lent c.args.alias.now c.args.scope.now.aliases.items
    ∙ ap (list_any (λ earlier. bytes_eq earlier.now c.args.alias.now)) (sym c.deref.ensures.value) ∙ sym c.has_alias.ensures ∙ c.if-has_alias.false)
    (ap (λ s. c.args.scope.now.sources.items ++ s ∷ []) one ∙ sym c.in_ok-push.ensures)
    (sym (ap (λ l. map (λ a. a.now) l) c.in_ok-push-2.ensures ∙ map-append (λ a. a.now) c.args.scope.now.aliases.items (c.args.alias ∷ [])))
    (ap (λ columns. map field_view fields ++ map (λ column. (c.args.alias.now, column)) columns) (sym c.get-2.ensures) ∙ sym c.in_ok-push_fields.ensures)
