use Rattle.std.proofs.Common.{[], sym, ◌∙◌}
use Rattle.std.proofs.lemmas.Option.{slice_get-get_or}
use Rattle.csv.specs.Records.{fields_of}
use Rattle.tq_event.proofs.FieldLemmas.{field-slice}
use Rattle.tq_diagnostics.proofs.fields.field_at.Goals as goal

pub unreachable-requires : goal.unreachable-requires
unreachable-requires c =
    let fields = fields_of c.args.record.now in
    let none = c.in-None.ensures.value ∙ field-slice fields c.args.place ∙ slice_get-get_or fields c.args.place [] c.requires in
    cc none

pub returns : goal.returns
returns c = sym (c.in-Some.ensures.value ∙ field-slice (fields_of c.args.record.now) c.args.place)
