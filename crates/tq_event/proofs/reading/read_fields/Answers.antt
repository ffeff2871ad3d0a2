use Rattle.std.proofs.Common.{◌≡◌, ◌∙◌, ◌∷◌, ◌++◌, [], ◌+◌, drop, length, ap, arith, refl, sym, length-append}
use Rattle.std.proofs.lemmas.List.{drop_more}
use Rattle.std.proofs.lemmas.Result.{err_from_is_err_and}
use Rattle.csv.specs.Records.{fields_of}
use Rattle.tq_base.specs.declared.catalogue.Column.{Column}
use Rattle.tq_base.specs.declared.value.Value.{Value}
use Rattle.tq_event.specs.Projection.{is_wanted, projected_value, projected_values}
use Rattle.tq_event.proofs.ProjectionLemmas.{values_push}
use Rattle.tq_event.proofs.FieldLemmas.{fields_from}
use Rattle.tq_event.proofs.reading.read_fields.Goals as goal

pub returns-in_err-value-clause-fault : goal.returns-in_err-value-clause-fault
returns-in_err-value-clause-fault c =
    let p = err_from_is_err_and c.from_residual-in_err-value.result c.from_residual-in_err-value.ensures.1 in
    rw (p.1, p.2) (λ known.
    let fields = fields_of c.args.record.now in
    let columns = c.args.columns.now in
    let column = drop_more columns c.columns.place c.index-columns-place.result c.columns-test.true ∙ ap (λ (x : Column). x ∷ drop (c.columns.place + 1) columns) (sym c.index-columns-place.is) in
    let field = fields_from fields c.columns.place c.field_at-field.result.now c.field_at-field.ensures (omega (arith, c.columns-test.true, c.requires)) in
    c.columns.invariant.rest ∙ rw (column, field) (rw (c.in_err-value.ensures.fault known) refl))

pub columns-init : goal.columns-init
unfolding projected_values
columns-init c =
    let none : c.reserve.new.self.items ≡ [] = c.in_ok-reserve.ensures.items ∙ c.clear.ensures.items in
    record {
      room = omega (arith, c.in_ok-reserve.ensures.ok, c.in_ok-reserve.ensures.len, c.clear.ensures.len);
      as_many = ap length none;
      whole = [];
      many = refl;
      kept = none;
      rest = refl;
    }

pub columns-preserved : goal.columns-preserved
columns-preserved c =
    let fields = fields_of c.args.record.now in
    let columns = c.args.columns.now in
    let column = drop_more columns c.columns.place c.index-columns-place.result c.columns-test.true ∙ ap (λ (x : Column). x ∷ drop (c.columns.place + 1) columns) (sym c.index-columns-place.is) in
    let field = fields_from fields c.columns.place c.field_at-field.result.now c.field_at-field.ensures (omega (arith, c.columns-test.true, c.requires)) in
    let i = c.columns.invariant in
    let wanted = c.args.wanted.now in
    let one = c.in_ok-value.ensures.ok in
    let pushed : c.push_reserved.new.self.items ≡ c.columns.values.items ++ c.in_ok-value.value ∷ [] = c.push_reserved.ensures.items in
    let so : c.in_ok-value.value ≡ projected_value (is_wanted wanted (length i.whole)) one.whole = one.kept ∙ ap (λ b. projected_value b one.whole) (c.is_wanted.ensures ∙ ap (is_wanted wanted) (sym i.many)) in
    record {
      room = omega (arith, i.room, c.push_reserved.ensures.len, c.push_reserved.ensures.capacity);
      as_many = rw pushed (length-append c.columns.values.items (c.in_ok-value.value ∷ []) ∙ ap (λ n. n + 1) i.as_many);
      whole = i.whole ++ one.whole ∷ [];
      many = length-append i.whole (one.whole ∷ []) ∙ ap (λ n. n + 1) i.many;
      kept = pushed ∙ ap (λ l. l ++ c.in_ok-value.value ∷ []) i.kept ∙ ap (λ (v : Value). projected_values wanted i.whole ++ v ∷ []) so ∙ sym (values_push wanted i.whole one.whole);
      rest = i.rest ∙ rw (column, field) (rw one.parsed refl);
    }
