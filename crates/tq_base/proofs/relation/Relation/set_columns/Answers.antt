use Rattle.std.proofs.Common.{◌∙◌, All, ap, length, map, subst, sym}
use Rattle.tq_base.specs.Parts.{chosen_column, periods_of, rows_by_number, IsIn}
use Rattle.tq_base.specs.Relations.{projected}
use Rattle.tq_base.specs.RowLists.{RowList}
use Rattle.tq_base.proofs.RelationLemmas.{all_chosen_in, projected_rows}
use Rattle.tq_base.proofs.relation.Relation.set_columns.Goals as goal

pub invariant_of-self : goal.invariant_of-self
invariant_of-self c =
    let r = c.self.inside in
    let parts = length r.parts.items in
    let chosen = c.in_ok-self-inside.ensures ∙ ap (λ columns. map (chosen_column columns) c.args.columns.now) c.deref.ensures.value in
    (c.self.invariant.0, c.self.invariant.1, subst (All (IsIn parts)) (sym chosen) (all_chosen_in parts r.columns.items c.args.columns.now c.self.invariant.2))

pub returns-clause-rows : goal.returns-clause-rows
returns-clause-rows c =
    let r = c.self.inside in
    let periods = periods_of r.parts.items r.periods in
    let chosen = c.in_ok-self-inside.ensures ∙ ap (λ columns. map (chosen_column columns) c.args.columns.now) c.deref.ensures.value in
    ap (λ columns. rows_by_number r.parts.items columns 0 periods) chosen
    ∙ projected_rows r.parts.items r.columns.items c.args.columns.now 0 periods
    ∙ ap (λ (v : RowList). map (projected c.args.columns.now) v.items) c.self.view_is
