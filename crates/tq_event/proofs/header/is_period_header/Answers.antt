use Rattle.std.proofs.Common.{◌≡◌, ◌∷◌, [], arith, refl}
use Rattle.csv.specs.Records.{fields_of}
use Rattle.tq_event.specs.Loading.{period_fields}
use Rattle.tq_event.proofs.FieldLemmas.{period_fields_are}
use Rattle.tq_event.proofs.header.is_period_header.Goals as goal

pub returns-then-is_same_word : goal.returns-then-is_same_word
returns-then-is_same_word c =
    let two : period_fields (fields_of c.args.record.now) ≡ c.field_at-from.result.now ∷ c.field_at-to.result.now ∷ [] =
    period_fields_are (fields_of c.args.record.now) c.field_at-from.result.now c.field_at-to.result.now (omega (arith, c.requires))
    (rw c.len-width.ensures at c.field_at-from.ensures) (rw c.len-width.ensures at c.field_at-to.ensures) in
    rw (two, ← c.is_same_word.ensures, c.if-is_same_word.true) (c.is_same_word-then-is_same_word.ensures)

pub returns-else-is_same_word : goal.returns-else-is_same_word
returns-else-is_same_word c =
    let two : period_fields (fields_of c.args.record.now) ≡ c.field_at-from.result.now ∷ c.field_at-to.result.now ∷ [] =
    period_fields_are (fields_of c.args.record.now) c.field_at-from.result.now c.field_at-to.result.now (omega (arith, c.requires))
    (rw c.len-width.ensures at c.field_at-from.ensures) (rw c.len-width.ensures at c.field_at-to.ensures) in
    rw (two, ← c.is_same_word.ensures, c.if-is_same_word.false) refl
