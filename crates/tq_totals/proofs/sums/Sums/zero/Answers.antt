use Rattle.std.proofs.Common.{◌∙◌, [], ◌∷◌, ◌++◌, List, ap, sym}
use Rattle.std.proofs.lemmas.List.{map_more}
use Rattle.tq_totals.specs.Sums.{row_sum}
use Rattle.tq_totals.specs.declared.sums.Sum.{Sum}
use Rattle.tq_totals.proofs.sums.Sums.zero.Goals as goal

pub columns-preserved : goal.columns-preserved
columns-preserved c =
    c.in_ok-push.ensures.items ∙ ap (λ (l : List Sum). l ++ row_sum [] 0 ∷ []) c.columns.invariant
    ∙ sym (map_more (row_sum []) c.args.summed.now c.columns._column-index 0 c.columns-test.true)
