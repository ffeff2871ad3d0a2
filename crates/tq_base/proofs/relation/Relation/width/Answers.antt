use Rattle.std.proofs.Common.{◌≡◌, length, subst}
use Rattle.std.specs.Prelude.{All}
use Rattle.tq_base.specs.declared.fragment.Fragment.{Fragment}
use Rattle.tq_base.specs.Parts.{periods_of}
use Rattle.tq_base.specs.RowLists.{RowList}
use Rattle.tq_base.proofs.RelationLemmas.{widths-rows_by_number}
use Rattle.tq_base.proofs.relation.Relation.width.Goals as goal

pub returns-clause-rows : goal.returns-clause-rows
returns-clause-rows c =
    let r = c.self.inside in
    subst (λ (v : RowList). All (λ (row : Fragment). length row.values ≡ v.width) v.items) c.self.view_is
    (widths-rows_by_number r.parts.items r.columns.items (periods_of r.parts.items r.periods))
