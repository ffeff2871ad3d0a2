use Rattle.std.proofs.Common.{◌≡◌, ℕ, zero, suc, List, [], ◌∷◌, Some, None, refl}
use Rattle.csv.specs.Records.{field_at, fields_of}
use Rattle.tq_import.specs.Records.{field_of}
use Rattle.tq_import.proofs.reading.field_at.Goals as goal

found : (fields : List (List ℕ)) (place : ℕ) (field : List ℕ) → Some field ≡ field_at fields place → field ≡ field_of fields place
unfolding field_at
found [] place field e = cc e
found (f ∷ fields) zero field e = cc e
found (f ∷ fields) (suc place) field e = found fields place field e

absent : (fields : List (List ℕ)) (place : ℕ) → None ≡ field_at fields place → [] ≡ field_of fields place
unfolding field_at
absent [] place e = refl
absent (f ∷ fields) zero e = cc e
absent (f ∷ fields) (suc place) e = absent fields place e

pub returns-in-Some : goal.returns-in-Some
returns-in-Some c = found (fields_of c.args.record.now) c.args.place c.in-Some.field.now c.in-Some.ensures.value

pub returns-in-None : goal.returns-in-None
returns-in-None c = absent (fields_of c.args.record.now) c.args.place c.in-None.ensures.value
