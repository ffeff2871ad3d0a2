use Rattle.std.proofs.Common.{rules, ◌≡◌, ◌<◌, ◌+ℤ◌, ◌&&◌, ◌∷◌, [], ℕ, ℤ, List, cond, pos, length, get_or, refl, ap, ◌∙◌, subst, arith, to_z, of_z, w64, FitsSigned}
use Rattle.std.specs.Int.{w128}
use Rattle.std.proofs.lemmas.Int.{ints}
use Rattle.std.proofs.lemmas.List.{length-map}
use Rattle.tq_base.specs.declared.fragment.Fragment.{Fragment}
use Rattle.tq_base.specs.declared.value.Value.{Value}
use Rattle.tq_base.specs.RowValues.{number_of, value_at}
use Rattle.tq_base.specs.Periods.{holds}
use Rattle.tq_base.specs.Relations.{column_of, values_at_number}
use Rattle.tq_agg.specs.declared.summands.Summand.TheVariants.{Column, One}
use Rattle.tq_agg.specs.Buckets.{AreRanked}
use Rattle.tq_agg.specs.Changes.{one, own, weighed}
use Rattle.tq_agg.specs.Grouping.{same_row}
use Rattle.tq_agg.specs.Totals.{weight_of}
use Rattle.tq_agg.proofs.Cutting.{period_at}
use Rattle.tq_agg.proofs.WeighedBuckets.{weight_at, weighed_step}
use Rattle.tq_agg.proofs.bucket_sums.weigh_rows.Goals as goal

pub rows-preserved : goal.rows-preserved
rows-preserved c =
    let rows = c.args.rows.now.items in
    let window = c.args.window.now in
    let i = c.rows.row in
    let view : List Value = c.column-view.result in
    let column : List Value = column_of rows c.args.column in
    let there : view ≡ column = c.column-view.ensures in
    let period = c.index-periods-row.result in
    let old = c.rows.buckets.list.items in
    let new = c.put_change.new.buckets in
    let w : ℤ = to_z w64 (of_z w64 c.in-Ok.weight) in
    let less : i < length rows = omega (arith, c.rows-test.true, ap length c.periods-periods.ensures, length-map rows (λ (row : Fragment). row.period)) in
    let is : (d : Fragment) → period ≡ (get_or rows i d).period = period_at rows c.periods-periods.result.now i period c.periods-periods.ensures less c.index-periods-row.is in
    let wide : FitsSigned w128 c.number_of.result = search rules in
    let same : w ≡ c.number_of.result = omega (arith, ints, c.in-Ok.ensures) in
    let of : w ≡ weight_of (Column c.args.summed) (values_at_number rows i) =
    same ∙ c.number_of.ensures ∙ ap number_of c.value.ensures ∙ ap (λ (l : List Value). number_of (value_at l i)) c.column-numbers.ensures ∙ weight_at rows c.args.summed i in
    let ranked : AreRanked view new.ranks.items new.list.items = c.in_ok-put_change.ensures.ranked c.if-not-branch.false in
    let weights : (f : ℤ → ℤ) (t : ℕ) (key : List Value) → weighed f view t key new.list.items ≡ weighed f view t key old +ℤ cond (holds period t && holds window t) (cond (same_row (value_at view i ∷ []) key) (f w) (pos 0)) (pos 0) =
    c.in_ok-put_change.ensures.weights c.if-not-branch.false in
    let more : (f : ℤ → ℤ) (t : ℕ) (key : List Value) → weighed f column t key new.list.items ≡ weighed f column t key old +ℤ cond (holds period t && holds window t) (cond (same_row (value_at column i ∷ []) key) (f w) (pos 0)) (pos 0) =
    λ f t key. subst (λ l. weighed f l t key new.list.items ≡ weighed f l t key old +ℤ cond (holds period t && holds window t) (cond (same_row (value_at l i ∷ []) key) (f w) (pos 0)) (pos 0)) there (weights f t key) in
    record {
      ranked = subst (λ l. AreRanked l new.ranks.items new.list.items) there ranked;
      cut = c.in_ok-put_change.ensures.cut c.if-not-branch.false;
      counts = λ t key. omega (arith, ints, more one t key, c.rows.invariant.counts t key, weighed_step c.args.column window One t key rows i period (pos 1) less is refl);
      sums = λ t key. omega (arith, ints, more own t key, c.rows.invariant.sums t key, weighed_step c.args.column window (Column c.args.summed) t key rows i period w less is of);
    }
