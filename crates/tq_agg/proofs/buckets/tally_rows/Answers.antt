use Rattle.std.proofs.Common.{◌≡◌, ◌<◌, ◌+ℤ◌, ◌&&◌, ◌∷◌, [], ℕ, List, cond, pos, length, get_or, subst, arith}
use Rattle.std.proofs.lemmas.Int.{ints}
use Rattle.tq_base.specs.declared.fragment.Fragment.{Fragment}
use Rattle.tq_base.specs.declared.value.Value.{Value}
use Rattle.tq_base.specs.RowValues.{value_at}
use Rattle.tq_base.specs.Periods.{holds}
use Rattle.tq_base.specs.Relations.{column_of}
use Rattle.tq_agg.specs.Buckets.{counted, AreRanked}
use Rattle.tq_agg.specs.Grouping.{same_row}
use Rattle.tq_agg.proofs.Bucketing.{keyed_step}
use Rattle.tq_agg.proofs.Cutting.{period_at}
use Rattle.tq_agg.proofs.buckets.tally_rows.Goals as goal

pub rows-preserved : goal.rows-preserved
rows-preserved c =
    let rows = c.args.rows.now.items in
    let window = c.args.window.now in
    let i = c.rows.row in
    let view : List Value = c.column-view.result in
    let column : List Value = column_of rows c.args.column in
    let there : view ≡ column = c.column-view.ensures in
    let period = c.index-periods-row.result in
    let old = c.rows.buckets.list.items in
    let new = c.put_row.new.buckets in
    let less : i < length rows = omega (arith, c.rows-test.true, c.requires.within) in
    let is : (d : Fragment) → period ≡ (get_or rows i d).period = period_at rows c.periods-periods.result.now i period c.periods-periods.ensures less c.index-periods-row.is in
    let ranked : AreRanked view new.ranks.items new.list.items = c.in_ok-put_row.ensures.ranked c.if-not-branch.false in
    let counts : (t : ℕ) (key : List Value) → counted view t key new.list.items ≡ counted view t key old +ℤ cond (holds period t && holds window t) (cond (same_row (value_at view i ∷ []) key) (pos 1) (pos 0)) (pos 0) =
    c.in_ok-put_row.ensures.counts c.if-not-branch.false in
    record {
      ranked = subst (λ l. AreRanked l new.ranks.items new.list.items) there ranked;
      cut = c.in_ok-put_row.ensures.cut c.if-not-branch.false;
      counts = λ t key.
          let more = subst (λ l. counted l t key new.list.items ≡ counted l t key old +ℤ cond (holds period t && holds window t) (cond (same_row (value_at l i ∷ []) key) (pos 1) (pos 0)) (pos 0)) there (counts t key) in
          omega (arith, ints, more, c.rows.invariant.counts t key, keyed_step c.args.column window t key rows i period less is);
    }
