use Rattle.std.proofs.Common.{◌≡◌, ◌∙◌, ap, length, sym, arith}
use Rattle.tq_base.specs.Parts.{periods_of}
use Rattle.tq_base.specs.RowLists.{RowList}
use Rattle.tq_base.proofs.RelationLemmas.{length-rows_by_number}
use Rattle.tq_base.proofs.relation.Relation.len.Goals as goal

pub returns-clause-len : goal.returns-clause-len
returns-clause-len c =
    let r = c.self.inside in
    ap length c.periods_of.ensures
    ∙ ap (λ parts. length (periods_of parts r.periods)) c.deref.ensures.value
    ∙ sym (length-rows_by_number r.parts.items r.columns.items 0 (periods_of r.parts.items r.periods))
    ∙ ap (λ (v : RowList). length v.items) c.self.view_is

pub returns-clause-few : goal.returns-clause-few
returns-clause-few c =
    let r = c.self.inside in
    let same : length c.periods_of.result.now ≡ length (periods_of r.parts.items r.periods) =
    ap length c.periods_of.ensures ∙ ap (λ parts. length (periods_of parts r.periods)) c.deref.ensures.value in
    omega (arith, same, c.self.invariant.1)
