use Rattle.std.proofs.Common.{◌≡◌, ◌∷◌, ◌∙◌, ◌+◌, drop, sym, ap, arith}
use Rattle.std.proofs.lemmas.List.{drop_all, drop_more}
use Rattle.tq_base.specs.Fragments.{occurrences}
use Rattle.tq_reference.proofs.RemovingLemmas.{occurrences-cons}
use Rattle.tq_reference.proofs.instant.remove_all.Goals as goal

pub right-preserved : goal.right-preserved
right-preserved c v =
    let right = c.args.right.now in
    let row = c.row-item.result in
    let rest = drop (c.right.row-index + 1) right in
    let next : drop c.right.row-index right ≡ row ∷ rest = drop_more right c.right.row-index row c.right-test.true ∙ ap (λ r. r ∷ rest) (sym c.row-item.is) in
    omega (arith, c.remove_one.ensures v, c.right.invariant v, ap (λ l. occurrences l v) next, occurrences-cons row rest v)

pub returns : goal.returns
returns c v =
    omega (arith, c.right.invariant v, ap (λ l. occurrences l v) (drop_all c.right.row-index c.args.right.now c.right-test.false))
