use Rattle.std.proofs.Common.{◌≡◌, ◌∙◌, ◌∷◌, ◌++◌, [], ℕ, List, ◌+◌, None, Some, ap, append-nil, arith, drop, refl, sym}
use Rattle.std.proofs.lemmas.List.{drop_all, drop_more}
use Rattle.csv.specs.Records.{fields_of}
use Rattle.tq_base.specs.declared.catalogue.Column.{Column}
use Rattle.tq_event.proofs.FieldLemmas.{fields_from}
use Rattle.tq_diagnostics.specs.Fields.{reported, value_detail, value_fault, value_problem, expected_value}
use Rattle.tq_diagnostics.proofs.fields.push_value_detail.Goals as goal

pub columns-preserved : goal.columns-preserved
columns-preserved c =
    let fields = fields_of c.args.record.now in
    let columns = c.args.columns.now in
    let place = c.columns.place in
    let column = drop_more columns place c.index-columns-place.result c.columns-test.true ∙ ap (λ (x : Column). x ∷ drop (place + 1) columns) (sym c.index-columns-place.is) in
    let field = fields_from fields place c.field_at-field.result.now c.field_at-field.ensures (omega (arith, c.columns-test.true, c.requires)) in
    let none : value_fault c.index-columns-place.result.kind c.field_at-field.result.now ≡ None = sym c.value_fault.ensures ∙ c.in_default.is in
    let step : value_detail (drop place columns) (drop place fields) ≡ value_detail (drop (place + 1) columns) (drop (place + 1) fields) = rw (column, field) (rw none refl) in
    record {
      text = c.columns.invariant.text;
      rest = sym step ∙ c.columns.invariant.rest;
    }

pub returns-in-Some : goal.returns-in-Some
returns-in-Some c =
    let fields = fields_of c.args.record.now in
    let columns = c.args.columns.now in
    let place = c.columns.place in
    let old = c.args.text.now.items in
    let column = drop_more columns place c.index-columns-place.result c.columns-test.true ∙ ap (λ (x : Column). x ∷ drop (place + 1) columns) (sym c.index-columns-place.is) in
    let field = fields_from fields place c.field_at-field.result.now c.field_at-field.ensures (omega (arith, c.columns-test.true, c.requires)) in
    let some : value_fault c.index-columns-place.result.kind c.field_at-field.result.now ≡ Some c.in-Some.kind = sym c.value_fault.ensures ∙ c.in-Some.is in
    let step : value_detail (drop place columns) (drop place fields) ≡ reported c.index-columns-place.result.name c.field_at-field.result.now (value_problem c.in-Some.kind) (expected_value c.in-Some.kind) = rw (column, field) (rw some refl) in
    let same : reported c.bytes-name.result.now c.field_at-field.result.now c.value_problem.result.now c.expected_value.result.now ≡ reported c.index-columns-place.result.name c.field_at-field.result.now (value_problem c.in-Some.kind) (expected_value c.in-Some.kind)
    = rw (c.bytes-name.ensures.value, c.value_problem.ensures, c.expected_value.ensures) refl in
    c.in_ok-push_continuations.ensures
    ∙ ap (λ (l : List ℕ). l ++ reported c.bytes-name.result.now c.field_at-field.result.now c.value_problem.result.now c.expected_value.result.now) c.columns.invariant.text
    ∙ ap (λ (l : List ℕ). old ++ l) (same ∙ sym step ∙ c.columns.invariant.rest)

pub returns : goal.returns
returns c =
    let fields = fields_of c.args.record.now in
    let columns = c.args.columns.now in
    let place = c.columns.place in
    let old = c.args.text.now.items in
    let none : drop place columns ≡ [] = drop_all place columns (omega (arith, c.columns-test.false)) in
    let step : value_detail (drop place columns) (drop place fields) ≡ [] = rw none refl in
    c.columns.invariant.text ∙ sym (append-nil old) ∙ ap (λ (l : List ℕ). old ++ l) (sym step ∙ c.columns.invariant.rest)
