use Rattle.std.proofs.Common.{◌≡◌, ◌∙◌, ◌+◌, ◌++◌, [], ◌∷◌, arith, sym, take}
use Rattle.csv.specs.Records.{fields_of, partial_of}
use Rattle.tq_diagnostics.proofs.RecordLemmas.{take_next}
use Rattle.tq_diagnostics.proofs.headers.header_prefix.Goals as goal

pub fields-preserved : goal.fields-preserved
fields-preserved c =
    let fields = fields_of c.args.header.now in
    let place = c.fields.place in
    let grown = take_next fields place c.field_at.result.now c.field_at.ensures (omega (arith, c.fields-test.true, c.requires)) in
    let joined : fields_of c.fields.front ++ (partial_of c.fields.front ++ c.field_at.result.now) ∷ [] ≡ take (place + 1) fields = rw (c.fields.invariant.partial, c.fields.invariant.fields) (sym grown) in
    record {
      fields = c.in_ok-push_field.ensures.fields ∙ joined;
      partial = c.in_ok-push_field.ensures.partial;
    }
