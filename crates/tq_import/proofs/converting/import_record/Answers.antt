use Rattle.std.proofs.Common.{◌≡◌, ◌∙◌, ◌==◌, ◌++◌, List, ℕ, Result, Ok, ap, append_assoc, length, refl, sym, true}
use Rattle.std.proofs.lemmas.Bool.{eq-eqb}
use Rattle.csv.specs.Records.{fields_of}
use Rattle.tq_base.specs.declared.form.Form.{Form}
use Rattle.tq_import.specs.declared.fault.RecordFault.{RecordFault}
use Rattle.tq_import.specs.declared.plan.PlannedColumn.{PlannedColumn}
use Rattle.tq_import.specs.Records.{period_texts, row_number, values_after}
use Rattle.tq_import.specs.Times.{form_of}
use Rattle.tq_import.proofs.converting.import_record.Goals as goal

pub returns-in-Err-read_period-clause-fault : goal.returns-in-Err-read_period-clause-fault
returns-in-Err-read_period-clause-fault c known =
    let plan = c.args.plan.now in
    let fields = fields_of c.args.record.now in
    let first = row_number plan.numbered c.args.number in
    let width : (length fields == plan.width) ≡ true = eq-eqb (length fields) plan.width (sym c.len.ensures ∙ c.if-len-plan.false) in
    let (values, is, held) = c.in_default.ensures.ok first c.in_ok-begin_fields.ensures in
    let made : values_after first plan.numbers plan.columns fields ≡ Ok values = ap (λ (l : List PlannedColumn). values_after first plan.numbers l fields) (sym c.get.ensures) ∙ is in
    let period = c.in-Err-read_period.ensures.fault known in
    rw (width, made, period) refl

pub returns-clause-ok : goal.returns-clause-ok
returns-clause-ok c =
    let plan = c.args.plan.now in
    let fields = fields_of c.args.record.now in
    let first = row_number plan.numbered c.args.number in
    let width : (length fields == plan.width) ≡ true = eq-eqb (length fields) plan.width (sym c.len.ensures ∙ c.if-len-plan.false) in
    let (values, is, held) = c.in_default.ensures.ok first c.in_ok-begin_fields.ensures in
    let made : values_after first plan.numbers plan.columns fields ≡ Ok values = ap (λ (l : List PlannedColumn). values_after first plan.numbers l fields) (sym c.get.ensures) ∙ is in
    let period = c.in-Ok.ensures.ok in
    let begun = c.in_ok-push_instant.ensures values held in
    let ended = c.in_ok-push_bound.ensures _ begun in
    let texts : fields_of c.push_bound.new.fields ≡ values ++ period_texts (form_of plan.times.now) (c.in-Ok.period.start, c.in-Ok.period.end) =
    ended.0 ∙ append_assoc values _ _ ∙ ap (λ (f : Form). values ++ period_texts f (c.in-Ok.period.start, c.in-Ok.period.end)) c.form_of-form.ensures in
    rw (width, made, period) (ap (λ (l : List (List ℕ)). let r : Result (List (List ℕ)) RecordFault = Ok l in r) (sym texts))
