use Rattle.std.proofs.Common.{rules, ◌≡◌, ◌+◌, ◌∙◌, ◌++◌, ◌∷◌, [], ap, sym, arith}
use Rattle.std.specs.List.{range_with_len}
use Rattle.tq_base.specs.SortKeyLaws.{numbers_more}
use Rattle.tq_base.proofs.sort_input.all_columns.Goals as goal

pub columns-preserved : goal.columns-preserved
columns-preserved c =
    let here : c.in-Ok.column ≡ c.columns.column = search (rules, c.in-Ok.ensures) in
    rw (c.in_ok-push-in-Ok.ensures.items, c.columns.invariant)
    (ap (λ n. range_with_len 0 c.columns.column ++ n ∷ []) (let same : c.in-Ok.column ≡ 0 + c.columns.column = omega (arith, here) in same) ∙ sym (numbers_more 0 c.columns.column))
