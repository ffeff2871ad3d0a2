use Rattle.std.proofs.Common.{◌∙◌, ap, arith, refl}
use Rattle.std.proofs.lemmas.Result.{err_from_is_err_and}
use Rattle.csv.specs.Records.{fields_of}
use Rattle.tq_event.specs.Loading.{columns_after}
use Rattle.tq_event.proofs.FieldLemmas.{value_field_at}
use Rattle.tq_event.proofs.header.read_header.Goals as goal

pub returns-in_err-add_column-clause-fault : goal.returns-in_err-add_column-clause-fault
returns-in_err-add_column-clause-fault c =
    let p = err_from_is_err_and c.from_residual.result c.from_residual.ensures.1 in
    rw (p.1, p.2) (λ known.
    let fields = fields_of c.args.record.now in
    let split = value_field_at fields c.fields.place c.field_at.result.now c.field_at.ensures (omega (arith, c.fields-test.true, c.len-width.ensures)) in
    c.fields.invariant ∙ ap (columns_after c.fields.columns.items) split ∙ rw (c.in_err-add_column.ensures.fault known) refl)

pub fields-preserved : goal.fields-preserved
fields-preserved c =
    let fields = fields_of c.args.record.now in
    let split = value_field_at fields c.fields.place c.field_at.result.now c.field_at.ensures (omega (arith, c.fields-test.true, c.len-width.ensures)) in
    c.fields.invariant ∙ ap (columns_after c.fields.columns.items) split ∙ rw (c.in_ok-add_column.ensures.ok) refl
