use Rattle.std.proofs.Common.{◌≡◌, ◌+◌, ◌-◌, ◌∙◌, ap, arith, length}
use Rattle.std.specs.List.{range_with_len}
use Rattle.std.proofs.lemmas.List.{length-append}
use Rattle.std.proofs.lemmas.Result.{IfOk-weaker}
use Rattle.tq_exec.specs.OutputPlaces.{item_places, summed_places}
use Rattle.tq_exec.proofs.AggregatePartLemmas.{gathered_answer, gathered_inside}
use Rattle.tq_exec.proofs.ItemLemmas.{shown_outside}
use Rattle.tq_exec.proofs.aggregate_parts.groups_of.Goals as goal

pub returns-clause-made : goal.returns-clause-made
returns-clause-made c =
    let query = c.args.query.now in
    let first : length c.get-first.result.now ≡ length query.group = ap length c.get-first.ensures in
    let end : c.len-end.result ≡ length query.group + length (summed_places query.outputs) =
    omega (arith, c.len-end.ensures, ap length c.in_ok-group_columns.ensures, length-append query.group (summed_places query.outputs)) in
    let none_before : length c.get-first.result.now - 0 ≡ length query.group = omega (arith, first) in
    let behind : c.len-end.result - length c.get-first.result.now ≡ length (summed_places query.outputs) = omega (arith, first, end) in
    let keys : c.deref.result.now ≡ range_with_len 0 (length query.group) = c.deref.ensures.value ∙ c.in_ok-keys.ensures ∙ ap (range_with_len 0) none_before in
    let sums : c.deref-2.result.now ≡ range_with_len (length query.group) (length (summed_places query.outputs)) =
    c.deref-2.ensures.value ∙ c.in_ok-sums.ensures ∙ (λ i. range_with_len (first i) (behind i)) in
    IfOk-weaker c.item_rows.result _ _
    (λ out is. gathered_inside query c.args.window.now c.deref.result.now c.deref-2.result.now c.args.rows.now.items c.in_ok-groups.groups.items out.items keys sums c.in_ok-groups.ensures.inside is)
    c.item_rows.ensures.rows

pub returns-clause-inside : goal.returns-clause-inside
returns-clause-inside c valid found =
    let query = c.args.query.now in
    let rows = c.args.rows.now.items in
    IfOk-weaker c.item_rows.result _ _
    (λ out made t v inside. made t v inside ∙ gathered_answer valid query c.args.window.now rows c.requires.grouped c.requires.stand found t v inside)
    (returns-clause-made c)

pub returns-clause-outside : goal.returns-clause-outside
returns-clause-outside c =
    let query = c.args.query.now in
    IfOk-weaker c.item_rows.result _ _
    (λ out is. shown_outside (item_places query.group (length query.group + 1) query.outputs) c.args.window.now c.in_ok-groups.groups.items out.items c.in_ok-groups.ensures.outside is)
    c.item_rows.ensures.rows
