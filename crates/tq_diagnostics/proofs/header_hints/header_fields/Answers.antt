use Rattle.std.proofs.Common.{◌∙◌, ◌∷◌, ◌++◌, [], ℕ, List, ap, arith, sym}
use Rattle.csv.specs.Records.{fields_of}
use Rattle.tq_diagnostics.proofs.RecordLemmas.{take_next}
use Rattle.tq_diagnostics.proofs.header_hints.header_fields.Goals as goal

pub fields-preserved : goal.fields-preserved
fields-preserved c =
    let fields = fields_of c.args.header.now in
    let place = c.fields.place in
    c.in_ok-push_name.ensures
    ∙ ap (λ (l : List (List ℕ)). l ++ c.field_at.result.now ∷ []) c.fields.invariant
    ∙ sym (take_next fields place c.field_at.result.now c.field_at.ensures (omega (arith, c.fields-test.true)))
