use Rattle.std.proofs.Common.{◌∙◌, ap, map, sym}
use Rattle.tq_base.specs.declared.fragment.Fragment.{Fragment}
use Rattle.tq_base.specs.Parts.{periods_of}
use Rattle.tq_base.specs.RowLists.{RowList}
use Rattle.tq_base.proofs.RelationLemmas.{periods-rows_by_number}
use Rattle.tq_base.proofs.relation.Relation.periods.Goals as goal

pub returns : goal.returns
returns c =
    let r = c.self.inside in
    c.periods_of.ensures
    ∙ ap (λ parts. periods_of parts r.periods) c.deref.ensures.value
    ∙ sym (periods-rows_by_number r.parts.items r.columns.items 0 (periods_of r.parts.items r.periods))
    ∙ ap (λ (v : RowList). map (λ (row : Fragment). row.period) v.items) c.self.view_is
