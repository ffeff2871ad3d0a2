use Rattle.std.proofs.Common.{◌≡◌, ◌+ℤ◌, ◌+◌, ◌∷◌, ◌∙◌, drop, sym, ap, rules, arith, subst, FitsSigned, to_z, of_z}
use Rattle.std.specs.Int.{w64, w128}
use Rattle.std.proofs.lemmas.Int.{ints, to_z-of_z}
use Rattle.std.proofs.lemmas.List.{drop_more}
use Rattle.std.proofs.lemmas.List.Elements.{All-get_or}
use Rattle.tq_agg.specs.Grouping.{sum_at}
use Rattle.tq_base.specs.RowValues.{number_of, value_at}
use Rattle.tq_exec.specs.OutputPlaces.{AreNumbers}
use Rattle.tq_reference.proofs.NarrowLemmas.{IsSumOf, narrow_at, sum_more}
use Rattle.tq_reference.proofs.groups.sum_at.Goals as goal

pub rows-preserved : goal.rows-preserved
rows-preserved c =
    let place = c.args.place in
    let rows = c.args.rows.now in
    let row = c.row-item.result in
    let rest = drop (c.rows.row-index + 1) rows in
    let number = c.number_at.result in
    let here : number ≡ number_of (value_at row place) = c.number_at.ensures ∙ ap (λ r. number_of (value_at r place)) c.get.ensures in
    let next : sum_at place (drop c.rows.row-index rows) ≡ number +ℤ sum_at place rest =
    ap (sum_at place) (drop_more rows c.rows.row-index row c.rows-test.true ∙ ap (λ r. r ∷ rest) (sym c.row-item.is)) ∙ ap (λ z. z +ℤ sum_at place rest) (sym here) in
    let before = to_z w128 c.rows.sum-bits in
    let more = c.in-Some.more in
    let added = c.in-Some.ensures in
    let fits : FitsSigned w128 number = search rules in
    let more_is : to_z w128 (of_z w128 more) ≡ before +ℤ number =
    to_z-of_z w128 more (subst (FitsSigned w128) (sym added.1) added.0) ∙ added.1 ∙ ap (λ z. before +ℤ z) (to_z-of_z w128 number fits) in
    record {
      summed = omega (arith, ints, more_is, next, c.rows.invariant.summed);
      small = λ narrow.
          let row_narrow : AreNumbers row = subst AreNumbers (sym c.row-item.is) (All-get_or AreNumbers rows c.rows.row-index row c.rows-test.true narrow) in
          subst (IsSumOf (c.rows.row-index + 1)) (sym more_is)
          (sum_more c.rows.row-index before number (c.rows.invariant.small narrow) (subst (FitsSigned w64) (sym here) (narrow_at row place row_narrow)));
    }
