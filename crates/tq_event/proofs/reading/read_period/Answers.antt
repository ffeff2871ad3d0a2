use Rattle.std.proofs.Common.{◌≡◌, ◌∷◌, [], arith}
use Rattle.csv.specs.Records.{fields_of}
use Rattle.tq_event.specs.Loading.{period_fields}
use Rattle.tq_event.proofs.FieldLemmas.{period_fields_are}
use Rattle.tq_event.proofs.reading.read_period.Goals as goal

pub returns : goal.returns
returns c =
    let two : period_fields (fields_of c.args.record.now) ≡ c.field_at-from.result.now ∷ c.field_at-to.result.now ∷ [] =
    period_fields_are (fields_of c.args.record.now) c.field_at-from.result.now c.field_at-to.result.now (omega (arith, c.requires))
    (rw c.len-width.ensures at c.field_at-from.ensures) (rw c.len-width.ensures at c.field_at-to.ensures) in
    rw (two, ← c.read_instant.ensures, ← c.read_bound.ensures) c.make_period.ensures
