use Rattle.std.proofs.Common.{◌≡◌, ◌*◌, ◌∙◌, ap, length, rules, sym, arith}
use Rattle.std.proofs.lemmas.List.{length-map}
use Rattle.tq_base.specs.declared.fragment.Fragment.{Fragment}
use Rattle.tq_base.proofs.RowListLemmas.{length-values, list_made_again}
use Rattle.tq_base.proofs.rows.Rows.widened.Goals as goal

pub of_values-requires-clause-fill : goal.of_values-requires-clause-fill
of_values-requires-clause-fill c =
    let items = c.args.self.now.items in
    let periods : c.in_ok-periods.periods.items ≡ c.periods.result.now = search rules in
    let as_many : length c.in_ok-periods.periods.items ≡ length items = ap length (periods ∙ c.periods.ensures) ∙ length-map items (λ (row : Fragment). row.period) in
    ap length c.in_ok-values.ensures
    ∙ length-values c.args.self.now.width items c.width.ensures.rows
    ∙ (λ i. sym as_many i * sym c.width.ensures.width i)

pub of_values-requires-clause-few : goal.of_values-requires-clause-few
of_values-requires-clause-few c =
    let items = c.args.self.now.items in
    let periods : c.in_ok-periods.periods.items ≡ c.periods.result.now = search rules in
    let as_many : length c.in_ok-periods.periods.items ≡ length items = ap length (periods ∙ c.periods.ensures) ∙ length-map items (λ (row : Fragment). row.period) in
    omega (arith, as_many, c.len-few.ensures.len, c.len-few.ensures.few)

pub returns : goal.returns
returns c =
    let periods : c.in_ok-periods.periods.items ≡ c.periods.result.now = search rules in
    c.of_values.ensures
    ∙ list_made_again c.args.self.now c.width.result c.in_ok-values.values.items c.in_ok-periods.periods.items c.width.ensures.width c.in_ok-values.ensures (periods ∙ c.periods.ensures) c.width.ensures.rows
