use Rattle.std.proofs.Common.{Option, subst, sym}
use Rattle.std.proofs.lemmas.Option.{IfSome_then}
use Rattle.std.specs.Prelude.{IfSome, Vec}
use Rattle.std.specs.declared.alloc.Global.{Global}
use Rattle.tq_base.specs.declared.catalogue.Catalogue.{Catalogue}
use Rattle.tq_event.specs.declared.file.TableFile.{TableFile}
use Rattle.tq_diagnostics.specs.PlanDetails.{IsPlanDetail}
use Rattle.tq_commands.specs.Report.{IsPlanDetailOver}
use Rattle.tq_commands.proofs.refusals.refused_plan.Goals as goal

pub returns-clause-detail : goal.returns-clause-detail
returns-clause-detail c =
    let over = c.in-Some-catalogue_of.ensures in
    let form = c.args.form in
    let statement = c.args.statement.now in
    subst (λ (headers : Option (Vec TableFile Global)). IfSome c.of_plan.result.detail (λ text. IsPlanDetailOver form headers c.args.fault statement text.items))
    (sym c.in-Some.is)
    (IfSome_then c.of_plan.result.detail c.of_plan.ensures.detail (λ text is. (
      over.0,
      over.1,
      subst (λ (catalogue : Catalogue). IsPlanDetail form catalogue statement c.args.fault text.items) over.2 is,
    )))
