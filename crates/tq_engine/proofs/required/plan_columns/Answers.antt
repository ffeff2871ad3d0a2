use Rattle.std.proofs.Common.{sym, subst}
use Rattle.tq_base.specs.declared.catalogue.Catalogue.{Catalogue}
use Rattle.tq_event.specs.Projection.{wanted_lists}
use Rattle.tq_load.specs.Parts.{AreHeaded}
use Rattle.tq_engine.proofs.LoadedQueryLemmas.{serves_found}
use Rattle.tq_engine.proofs.required.plan_columns.Goals as goal

pub returns-in-Ok-required_columns : goal.returns-in-Ok-required_columns
returns-in-Ok-required_columns c =
    let catalogue : Catalogue = record { tables = c.of.result; few = rw c.of.ensures c.in-Ok.ensures.few } in
    let headed : AreHeaded c.args.files.now c.of.result = subst (AreHeaded c.args.files.now) (sym c.of.ensures) c.in-Ok.ensures.headed in
    serves_found c.headers_are_catalogue.ensures c.statements_are_unique.ensures c.args.form c.args.files.now c.args.bytes.now (wanted_lists c.in-Ok-required_columns.columns.items)
    catalogue c.in-Ok-read.statement c.in-Ok-plan.plan headed c.in-Ok-read.ensures.statement c.in-Ok-plan.ensures.plan c.in-Ok-required_columns.ensures
