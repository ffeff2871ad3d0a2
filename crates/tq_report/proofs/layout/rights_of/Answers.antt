use Rattle.std.proofs.Common.{◌∙◌, Bool, List, [], ◌∷◌, ◌++◌, ap, sym, map, arith}
use Rattle.std.proofs.lemmas.List.FromFn.{map-range_with_len_more}
use Rattle.std.specs.List.{range_with_len}
use Rattle.tq_report.specs.Layouts.{has_numbers}
use Rattle.tq_report.proofs.layout.rights_of.Goals as goal

pub columns-preserved : goal.columns-preserved
columns-preserved c =
    let right = has_numbers c.args.table.now.rows in
    let at = c.columns.column in
    c.in_ok-push.ensures.items
    ∙ ap (λ (l : List Bool). l ++ c.has_numbers.result ∷ []) c.columns.invariant
    ∙ ap (λ (b : Bool). map right (range_with_len 0 at) ++ b ∷ []) c.has_numbers.ensures
    ∙ sym (map-range_with_len_more right 0 at at (omega arith))
