use Rattle.std.proofs.Common.{◌≡◌, ◌∙◌, ◌≤◌, ◌<◌, [], ◌∷◌, ◌++◌, ap, arith, get_or, length, length-set, map, rules, FitsSigned, subst, sym, unsigned_abs}
use Rattle.std.proofs.lemmas.Int.{to_z-of_z}
use Rattle.std.specs.Int.{w128}
use Rattle.std.proofs.lemmas.List.{get_or-map, length-map}
use Rattle.std.proofs.lemmas.List.Elements.{Contains-get_or}
use Rattle.tq_base.specs.declared.fragment.Fragment.{Fragment}
use Rattle.tq_base.specs.RowValues.{number_of}
use Rattle.tq_totals.specs.Sums.{row_sum}
use Rattle.tq_totals.specs.declared.sums.Sum.{Sum}
use Rattle.tq_totals.proofs.SumLemmas.{rewrite_more, row_sum_is, sum_there, too_large, total_within}
use Rattle.tq_totals.proofs.sums.add_row.Goals as goal

pub sum_more-requires : goal.sum_more-requires
sum_more-requires c =
    let rows = c.requires.0 in
    let parts = c.columns.invariant.parts rows c.requires.1 in
    let there = sum_there c.columns.sums.items rows c.args.summed.now c.columns.place c.index.result.now (omega (arith, c.columns-test.true)) parts.1 c.index.ensures in
    subst (λ (s : Sum). unsigned_abs s.total ≤ s.size) (sym there) (total_within rows (get_or c.args.summed.now c.columns.place 0))

pub returns-in-None-clause-large : goal.returns-in-None-clause-large
returns-in-None-clause-large c rows is =
    let parts = c.columns.invariant.parts rows is in
    let column = get_or c.args.summed.now c.columns.place 0 in
    let row : Fragment = record { values = c.args.row.now; period = c.args.period } in
    let there = sum_there c.columns.sums.items rows c.args.summed.now c.columns.place c.index.result.now (omega (arith, c.columns-test.true)) parts.1 c.index.ensures in
    let fits : FitsSigned w128 c.number_of-number.result = search rules in
    let number = to_z-of_z w128 c.number_of-number.result fits ∙ c.number_of-number.ensures ∙ ap number_of c.value.ensures in
    let within : c.columns.place < length c.args.summed.now = omega (arith, c.columns-test.true) in
    (Contains-get_or c.args.summed.now c.columns.place 0 within, too_large rows row column c.index.result.now _ c.length_of-len.result there number c.length_of-len.ensures c.in-None.ensures)

pub columns-preserved : goal.columns-preserved
columns-preserved c = record {
  len = length-set c.columns.sums.items c.columns.place c.in-Some.sum ∙ c.columns.invariant.len;
  parts = λ rows is.
      let parts = c.columns.invariant.parts rows is in
      let summed = c.args.summed.now in
      let column = get_or summed c.columns.place 0 in
      let row : Fragment = record { values = c.args.row.now; period = c.args.period } in
      let within : c.columns.place < length summed = omega (arith, c.columns-test.true) in
      let there = sum_there c.columns.sums.items rows summed c.columns.place c.index.result.now within parts.1 c.index.ensures in
      let fits : FitsSigned w128 c.number_of-number.result = search rules in
      let number = to_z-of_z w128 c.number_of-number.result fits ∙ c.number_of-number.ensures ∙ ap number_of c.value.ensures in
      let sum = row_sum_is rows row column c.index.result.now _ c.length_of-len.result c.in-Some.sum there number c.length_of-len.ensures c.in-Some.ensures.1 in
      let new = map (row_sum (rows ++ row ∷ [])) summed in
      let sum_at : c.in-Some.sum ≡ get_or new c.columns.place c.in-Some.sum = sum ∙ sym (get_or-map (row_sum (rows ++ row ∷ [])) summed c.columns.place 0 c.in-Some.sum within) in
      rewrite_more c.columns.sums.items new (map (row_sum rows) summed) c.columns.place c.in-Some.sum
      (omega (arith, within, c.columns.invariant.len)) (omega (arith, within, length-map summed (row_sum (rows ++ row ∷ [])))) sum_at parts.0 parts.1;
}
