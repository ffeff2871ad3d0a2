use Rattle.std.proofs.Common.{◌≡◌, ◌∙◌, List, [], ◌∷◌, ◌++◌, ap, arith, map, rules, sym}
use Rattle.std.proofs.lemmas.List.FromFn.{map-range_with_len_more}
use Rattle.std.specs.List.{range_with_len}
use Rattle.tq_base.specs.Keys.{no_row}
use Rattle.tq_base.specs.declared.relation.RowPeriod.{RowPeriod}
use Rattle.tq_report.specs.Times.{row_key}
use Rattle.tq_report.proofs.times.keys_of.Goals as goal

pub rows-preserved : goal.rows-preserved
rows-preserved c =
    let rows = c.args.rows.now in
    let at = c.rows.row in
    let key : RowPeriod = record { row = c.in-Ok.number; period = c.period.result } in
    let number : c.in-Ok.number ≡ at = search rules in
    let is : key ≡ row_key rows at = λ i. record { row = number i; period = c.period.ensures no_row i } in
    c.in_ok-push.ensures.items
    ∙ ap (λ (l : List RowPeriod). l ++ key ∷ []) c.rows.invariant
    ∙ ap (λ (k : RowPeriod). map (row_key rows) (range_with_len 0 at) ++ k ∷ []) is
    ∙ sym (map-range_with_len_more (row_key rows) 0 at at (omega arith))
