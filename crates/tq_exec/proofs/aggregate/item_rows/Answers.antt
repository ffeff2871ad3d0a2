use Rattle.std.proofs.Common.{ap, length, ◌+◌, ◌∙◌}
use Rattle.std.proofs.lemmas.Result.{IfOk-weaker}
use Rattle.tq_exec.proofs.ItemLemmas.{length-item_places}
use Rattle.tq_exec.proofs.aggregate.item_rows.Goals as goal

pub returns-clause-width : goal.returns-clause-width
returns-clause-width c =
    IfOk-weaker c.project.result _ _
    (λ out same. same ∙ ap length (c.deref-2.ensures.value ∙ c.in_ok-columns.ensures ∙ c.deref.ensures.value ∙ c.in_ok-places.ensures) ∙ length-item_places c.get.result.now (length c.get.result.now + 1) c.get-2.result.now ∙ ap length c.get-2.ensures)
    c.project.ensures.width
