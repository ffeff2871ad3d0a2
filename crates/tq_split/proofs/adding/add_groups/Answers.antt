use Rattle.std.proofs.Common.{◌≤◌, ◌∙◌, List, ap, map, subst, sym}
use Rattle.std.specs.Prelude.{All, ℕ}
use Rattle.tq_base.specs.declared.fragment.Fragment.{Fragment}
use Rattle.tq_base.specs.declared.period.Period.{Period}
use Rattle.tq_base.specs.Layers.{IsLayers}
use Rattle.tq_base.specs.RowLists.{RowList}
use Rattle.tq_split.specs.declared.combine.Combine.TheVariants.{Add}
use Rattle.tq_split.specs.Adding.{combined}
use Rattle.tq_split.proofs.AddingLemmas.{added_layers}
use Rattle.tq_split.proofs.adding.add_groups.Goals as goal

pub returns-clause-layers : goal.returns-clause-layers
returns-clause-layers c =
    let groups = c.args.groups in
    let width = c.in_ok-width.width in
    let span = c.span_of-span.result in
    let rows = c.in_ok-rows.rows.items in
    let layers = c.in_ok-coalesce.field-0 in
    let sums = c.in_ok-sums.ensures in
    let rows_are = ap (λ (r : RowList). r.items) c.in_ok-rows.ensures in
    let ends = subst (All (λ (period : Period). period.end ≤ span.end)) (c.periods.ensures ∙ ap (map (λ (row : Fragment). row.period)) (sym rows_are)) c.span_of-span.ensures.end in
    subst (λ (l : List Fragment). IsLayers (combined (Add groups) c.args.rows.width l) layers) rows_are
    (subst (λ (w : ℕ). IsLayers (combined (Add groups) w rows) layers) c.in_ok-width.ensures
    (added_layers groups c.lesser.result width span rows c.in_ok-sums.sums.items layers c.lesser.ensures.value c.span_of-span.ensures.start ends sums.inside sums.outside c.in_ok-coalesce.ensures.layers))
