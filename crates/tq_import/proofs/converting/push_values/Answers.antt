use Rattle.std.proofs.Common.{◌≡◌, ◌∙◌, ◌+◌, ◌++◌, ◌∷◌, [], Ok, Err, ap, arith, drop, refl, sym}
use Rattle.std.proofs.lemmas.List.{drop_all, drop_more}
use Rattle.csv.specs.Records.{fields_of}
use Rattle.tq_import.specs.declared.plan.PlannedColumn.{PlannedColumn}
use Rattle.tq_import.specs.Records.{convert, field_of}
use Rattle.tq_import.proofs.converting.push_values.Goals as goal

pub returns-in-Err-clause-fault : goal.returns-in-Err-clause-fault
returns-in-Err-clause-fault c before has known =
    let (values, held, same) = c.each.invariant before has in
    let columns = c.args.columns.now in
    let fields = fields_of c.args.record.now in
    let column = c.column-item.result in
    let split = drop_more columns c.each.column-index column c.each-test.true ∙ ap (λ (x : PlannedColumn). x ∷ drop (c.each.column-index + 1) columns) (sym c.column-item.is) in
    let bad : convert c.args.format column.conversion (field_of fields column.place) ≡ Err c.in-Err.kind =
    ap (convert c.args.format column.conversion) (sym c.field_at-field.ensures) ∙ c.in-Err.ensures.fault known in
    same ∙ rw (split, bad) refl

pub each-preserved : goal.each-preserved
each-preserved c before has =
    let (values, held, same) = c.each.invariant before has in
    let columns = c.args.columns.now in
    let fields = fields_of c.args.record.now in
    let column = c.column-item.result in
    let split = drop_more columns c.each.column-index column c.each-test.true ∙ ap (λ (x : PlannedColumn). x ∷ drop (c.each.column-index + 1) columns) (sym c.column-item.is) in
    let (value, converted, more) = c.in_default.ensures.ok values held in
    let good : convert c.args.format column.conversion (field_of fields column.place) ≡ Ok value =
    ap (convert c.args.format column.conversion) (sym c.field_at-field.ensures) ∙ converted in
    (values ++ value ∷ [], more, same ∙ rw (split, good) refl)

pub returns-clause-ok : goal.returns-clause-ok
returns-clause-ok c before has =
    let (values, held, same) = c.each.invariant before has in
    let none = drop_all c.each.column-index c.args.columns.now (omega (arith, c.each-test.false)) in
    (values, same ∙ rw none refl, held)
