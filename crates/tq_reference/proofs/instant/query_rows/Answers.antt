use Rattle.std.proofs.Common.{◌∙◌}
use Rattle.std.specs.Prelude.{All}
use Rattle.std.proofs.lemmas.List.Elements.{All-same}
use Rattle.tq_plan.specs.Plans.{tables_in}
use Rattle.tq_exec.specs.OutputPlaces.{AreNumbers}
use Rattle.tq_reference.proofs.NarrowLemmas.{lists_narrow}
use Rattle.tq_reference.proofs.instant.query_rows.Goals as goal

pub returns-clause-too_large : goal.returns-clause-too_large
returns-clause-too_large c narrow =
    c.ordinary.ensures.too_large
    (All-same (All AreNumbers) _ _ (c.deref.ensures.value ∙ c.in_ok-lists.ensures) (lists_narrow c.args.events.now c.args.n c.args.instant (tables_in c.get.result.now) narrow))
