use Rattle.std.proofs.Common.{◌≡◌, ◌+◌, ◌∙◌, ap, length, sym, subst}
use Rattle.std.specs.Prelude.{All}
use Rattle.std.proofs.lemmas.Result.{IfOk-weaker}
use Rattle.tq_base.specs.declared.fragment.Fragment.{Fragment}
use Rattle.tq_base.specs.Fragments.{at, occurrences}
use Rattle.tq_agg.specs.Grouping.{AreSummable, grouped_rows}
use Rattle.tq_exec.specs.OutputPlaces.{item_places, summed_places}
use Rattle.tq_exec.proofs.ItemLemmas.{shown_inside, shown_outside}
use Rattle.tq_exec.proofs.aggregate.items_of_groups.Goals as goal

pub group_count_sum-requires : goal.group_count_sum-requires
group_count_sum-requires c =
    let sums : c.deref.result.now ≡ summed_places c.args.query.now.outputs = c.deref.ensures.value ∙ c.in_ok-sums.ensures ∙ ap summed_places c.get.ensures in
    record { summable = subst (λ s. All (λ (row : Fragment). AreSummable s row.values) c.args.rows.now.items) (sym sums) c.requires }

pub returns-clause-inside : goal.returns-clause-inside
returns-clause-inside c =
    let query = c.args.query.now in
    let rows = c.args.rows.now.items in
    let sums : c.deref.result.now ≡ summed_places query.outputs = c.deref.ensures.value ∙ c.in_ok-sums.ensures ∙ ap summed_places c.get.ensures in
    IfOk-weaker c.item_rows.result _ _
    (λ out is. shown_inside (item_places query.group (length query.group + 1) query.outputs) c.args.window.now
    (λ t. grouped_rows query.group (summed_places query.outputs) (at rows t)) c.in_ok-groups.groups.items out.items
    (λ t v inside.
    c.in_ok-groups.ensures.inside t v inside
    ∙ ap (λ g. occurrences (grouped_rows g c.deref.result.now (at rows t)) v) c.get-2.ensures
    ∙ ap (λ s. occurrences (grouped_rows query.group s (at rows t)) v) sums)
    is)
    c.item_rows.ensures.rows

pub returns-clause-outside : goal.returns-clause-outside
returns-clause-outside c =
    let query = c.args.query.now in
    IfOk-weaker c.item_rows.result _ _
    (λ out is. shown_outside (item_places query.group (length query.group + 1) query.outputs) c.args.window.now c.in_ok-groups.groups.items out.items c.in_ok-groups.ensures.outside is)
    c.item_rows.ensures.rows
