use Rattle.std.proofs.Common.{◌∙◌, ap}
use Rattle.csv.specs.Records.{fields_of}
use Rattle.tq_event.proofs.FieldLemmas.{field-slice}
use Rattle.tq_diagnostics.specs.Fields.{field_of}
use Rattle.tq_diagnostics.proofs.fields.field_or_nothing.Goals as goal

pub returns-in-Some : goal.returns-in-Some
returns-in-Some c = ap field_of (c.in-Some.ensures.value ∙ field-slice (fields_of c.args.record.now) c.args.place)

pub returns-in-None : goal.returns-in-None
returns-in-None c = ap field_of (c.in-None.ensures.value ∙ field-slice (fields_of c.args.record.now) c.args.place)
