use Rattle.std.proofs.Common.{◌≡◌, ◌∙◌, ◌==◌, ℕ, List, [], Ok, Some, Option, true, ap, arith, length, refl}
use Rattle.std.proofs.lemmas.Bool.{eq-eqb}
use Rattle.csv.specs.Records.{fields_of}
use Rattle.tq_base.specs.declared.catalogue.Column.{Column}
use Rattle.tq_base.specs.declared.value.Value.{Value}
use Rattle.tq_event.specs.Loading.{values_after}
use Rattle.tq_event.specs.SingleRecord.{values_in}
use Rattle.tq_event.proofs.ProjectionLemmas.{values_all}
use Rattle.tq_event.proofs.single_record.fields_read.Goals as goal

values_told : (columns : List Column) (fields : List (List ℕ)) (values : List Value) → length fields ≡ length columns → values_after [] columns fields ≡ Ok values → Some values ≡ values_in columns fields
values_told columns fields values many parsed = let as_many : (length fields == length columns) ≡ true = eq-eqb (length fields) (length columns) many in rw (as_many, parsed) refl

pub returns-in-Ok : goal.returns-in-Ok
returns-in-Ok c =
    let read = c.in-Ok.ensures.ok in
    ap (λ (vs : List Value). let o : Option (List Value) = Some vs in o) (c.of.ensures ∙ read.kept ∙ values_all read.whole)
    ∙ values_told c.args.columns.now (fields_of c.args.record.now) read.whole (omega (arith, c.if-len-columns.false, c.len.ensures)) read.parsed
