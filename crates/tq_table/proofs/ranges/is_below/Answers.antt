use Rattle.std.proofs.Common.{◌≡◌, ◌∙◌, ◌<◌, ◌++◌, ◌∷◌, [], suc, ap, arith, drop, get_or, length, pos, subst, sym, take}
use Rattle.std.proofs.Math.Seq.{split_at}
use Rattle.std.proofs.lemmas.List.{take_more}
use Rattle.tq_base.specs.declared.value.Value.{Value}
use Rattle.tq_base.specs.Contents.{Int}
use Rattle.tq_base.specs.Groups.{Below}
use Rattle.tq_base.specs.ValueOrder.{value_cmp, value_same}
use Rattle.tq_table.proofs.RangeLemmas.{below_at}
use Rattle.tq_table.proofs.ranges.is_below.Goals as goal

pub returns-in-Less : goal.returns-in-Less
returns-in-Less c is =
    let a = c.args.row.now in
    let b = c.args.other.now in
    let p = c.places.place in
    let zero : Value = Int (pos 0) in
    let in_a : p < length a = omega (arith, c.places-test.true, c.min-place-end.ensures, c.len.ensures) in
    let in_b : p < length b = omega (arith, c.places-test.true, c.min-place-end.ensures, c.len-2.ensures) in
    let less = sym (c.compare.ensures ∙ ap (λ v. value_cmp v c.value-in-places.result.now) c.value.ensures ∙ ap (λ v. value_cmp (get_or a p zero) v) c.value-in-places.ensures) ∙ c.in-Less.is in
    subst (λ l. Below l b) (sym (split_at a p zero in_a))
    (subst (λ l. Below (take p a ++ get_or a p zero ∷ drop (suc p) a) l) (sym (split_at b p zero in_b ∙ ap (λ f. f ++ get_or b p zero ∷ drop (suc p) b) (sym c.places.invariant)))
    (below_at (take p a) (drop (suc p) a) (drop (suc p) b) (get_or a p zero) (get_or b p zero) less))

pub places-preserved : goal.places-preserved
places-preserved c =
    let a = c.args.row.now in
    let b = c.args.other.now in
    let p = c.places.place in
    let zero : Value = Int (pos 0) in
    let in_a : p < length a = omega (arith, c.places-test.true, c.min-place-end.ensures, c.len.ensures) in
    let in_b : p < length b = omega (arith, c.places-test.true, c.min-place-end.ensures, c.len-2.ensures) in
    let equal = sym (c.compare.ensures ∙ ap (λ v. value_cmp v c.value-in-places.result.now) c.value.ensures ∙ ap (λ v. value_cmp (get_or a p zero) v) c.value-in-places.ensures) ∙ c.in-Equal.is in
    let same : get_or a p zero ≡ get_or b p zero = value_same (get_or a p zero) (get_or b p zero) equal in
    take_more a p zero in_a
    ∙ ap (λ l. l ++ get_or a p zero ∷ []) c.places.invariant
    ∙ ap (λ v. take p b ++ v ∷ []) same
    ∙ sym (take_more b p zero in_b)
