-- Rows in order, and rows that are below others.
use Rattle.std.proofs.Common.{◌≡◌, ◌∙◌, ◌<◌, ◌≤◌, ◌-◌, ◌++◌, ◌∷◌, ℕ, true, false, List, [], ap, arith, get_or, length, refl, subst, sym}
use Rattle.std.proofs.lemmas.List.{get_or_default}
use Rattle.std.specs.Prelude.{IsSorted}
use Rattle.std.specs.Ordering.{is_lt, nat_cmp, ordering_reverse, ordering_then}
use Rattle.std.specs.declared.cmp.Ordering.{Ordering}
use Rattle.std.specs.declared.cmp.Ordering.TheVariants.{Less, Equal, Greater}
use Rattle.std.proofs.lemmas.Cmp.{tied_itself}
use Rattle.std.proofs.lemmas.List.Sorted.{sorted_far, ranks_by}
use Rattle.tq_base.specs.declared.value.Value.{Value}
use Rattle.tq_base.specs.declared.fragment.Fragment.{Fragment}
use Rattle.tq_base.specs.Fragments.{fragment_cmp, fragment_total}
use Rattle.tq_base.specs.Groups.{below_then, Below, NotAbove}
use Rattle.tq_base.specs.Ranges.{AreBelow}
use Rattle.tq_base.specs.ValueOrder.{value_cmp, value_total, values_cmp, values_same, values_total}

-- ---- rows

not_above_below : (u v w : List Value) → NotAbove u v → Below v w → Below u w
not_above_below u v w not_above below = split (values_cmp u v) refl
  where
    split : (r : Ordering) → values_cmp u v ≡ r → Below u w
    split Less e = values_total.trans u v w e below
    split Equal e = subst (λ x. Below x w) (sym (values_same u v e)) below
    split Greater e = absurd (not_above e)

not_above : (f g : Fragment) → is_lt (fragment_cmp g f) ≡ false → NotAbove f.values g.values
not_above f g not_less greater =
    let less : values_cmp g.values f.values ≡ Less = values_total.antisymm g.values f.values ∙ ap ordering_reverse greater in
    let is : is_lt (fragment_cmp g f) ≡ true = ap (λ r. is_lt (ordering_then (ordering_then r (nat_cmp g.period.start f.period.start)) (nat_cmp g.period.end f.period.end))) less in
    cc

-- in a sorted list no row is above a later one
rises : (rows : List Fragment) → IsSorted fragment_cmp rows → (i j : ℕ) (d : Fragment) → i ≤ j → j < length rows → NotAbove (get_or rows i d).values (get_or rows j d).values
rises rows sorted i j d before within =
    not_above (get_or rows i d) (get_or rows j d) (sorted_far (λ x y. is_lt (fragment_cmp x y)) (ranks_by fragment_total (λ x. x)) rows sorted i j d before within)

-- if the last row is below the first of the others, all are below all of them
pub all_below : (rows others : List Fragment) (d : Fragment) → IsSorted fragment_cmp rows → IsSorted fragment_cmp others → Below (get_or rows (length rows - 1) d).values (get_or others 0 d).values → AreBelow rows others
all_below rows others d ordered others_ordered below k e less j f within =
    not_above_below (get_or rows k e).values last (get_or others j f).values
    (subst (λ (r : Fragment). NotAbove (get_or rows k e).values r.values) (get_or_default rows (length rows - 1) e d (omega (arith, less))) (rises rows ordered k (length rows - 1) e (omega (arith, less)) (omega (arith, less))))
    (below_then last (get_or others 0 d).values (get_or others j f).values below
    (subst (λ (r : Fragment). NotAbove r.values (get_or others j f).values) (get_or_default others 0 f d (omega (arith, within))) (rises others others_ordered 0 j f (omega arith) within)))
  where
    last : List Value
    last = (get_or rows (length rows - 1) d).values

-- ---- values

-- two lists with the same first values are ordered by the first values after these
pub below_at : (front xs ys : List Value) (x y : Value) → value_cmp x y ≡ Less → Below (front ++ x ∷ xs) (front ++ y ∷ ys)
below_at [] xs ys x y less = ap (λ r. ordering_then r (values_cmp xs ys)) less
below_at (v ∷ front) xs ys x y less =
    let tied : value_cmp v v ≡ Equal = tied_itself value_total v in
    ap (λ r. ordering_then r (values_cmp (front ++ x ∷ xs) (front ++ y ∷ ys))) tied ∙ below_at front xs ys x y less
