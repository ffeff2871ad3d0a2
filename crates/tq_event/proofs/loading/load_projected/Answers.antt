use Rattle.std.proofs.Common.{◌∙◌, subst, sym}
use Rattle.tq_event.specs.Projection.{wanted_lists}
use Rattle.tq_event.specs.Tables.{AreRead}
use Rattle.tq_event.proofs.ProjectionLemmas.{are_wanted}
use Rattle.tq_event.proofs.loading.load_projected.Goals as goal

pub returns-clause-tables : goal.returns-clause-tables
returns-clause-tables c =
    let schemas = c.in_ok-schemas.schemas.items in
    let read = c.in_ok-schemas.ensures.ok in
    are_wanted c.args.form c.args.files.items c.args.limit (wanted_lists c.args.wanted.now) schemas read.whole _ read.parsed c.of.ensures
    (c.of-2.ensures ∙ read.kept) (subst (AreRead schemas) (sym c.of-2.ensures) c.in_ok-schemas.ensures.read)

pub returns-clause-read : goal.returns-clause-read
returns-clause-read c =
    let schemas = c.in_ok-schemas.schemas.items in
    subst (λ s. AreRead s c.of-2.result) (sym c.of.ensures) (subst (AreRead schemas) (sym c.of-2.ensures) c.in_ok-schemas.ensures.read)
