-- The number of copies of a row in a list from which one row was removed.
use Rattle.std.proofs.Common.{◌≡◌, ℕ, ◌+◌, ◌-◌, ◌<◌, Bool, true, false, cond, List, [], ◌∷◌, get_or, refl, length, ap, arith}
use Rattle.std.specs.Prelude.{remove}
use Rattle.std.specs.Ordering.{eq_by_cmp}
use Rattle.std.proofs.lemmas.List.Sums.{sum_by-cons, sum_by-remove}
use Rattle.tq_base.specs.Fragments.{occurrences}
use Rattle.tq_base.specs.ValueOrder.{values_cmp, same_from_eq}
use Rattle.tq_agg.specs.Grouping.{Row}

-- 1 if the rows are equal, else 0
abbrev is_it : Row → Row → ℕ
is_it v row = cond (eq_by_cmp values_cmp row v) 1 0

pub occurrences-cons : (row : Row) (rows : List Row) (v : Row) → occurrences (row ∷ rows) v ≡ occurrences (row ∷ []) v + occurrences rows v
occurrences-cons row rows v = omega (arith, sum_by-cons (is_it v) row rows, sum_by-cons (is_it v) row [])

-- a row equal to it was removed
pub occurrences-removed : (rows : List Row) (i : ℕ) (row d v : Row) → i < length rows → eq_by_cmp values_cmp (get_or rows i d) row ≡ true → occurrences (remove rows i) v ≡ occurrences rows v - occurrences (row ∷ []) v
occurrences-removed rows i row d v less same =
    omega (arith, sum_by-remove (is_it v) rows i d less, sum_by-cons (is_it v) row [], ap (is_it v) (same_from_eq (get_or rows i d) row same))

-- there is no row equal to it
pub occurrences-none : (rows : List Row) (row v : Row) → occurrences rows row ≡ 0 → occurrences rows v ≡ occurrences rows v - occurrences (row ∷ []) v
occurrences-none rows row v none = by_same (eq_by_cmp values_cmp row v) refl
  where
    by_same : (b : Bool) → eq_by_cmp values_cmp row v ≡ b → occurrences rows v ≡ occurrences rows v - occurrences (row ∷ []) v
    by_same true same = omega (arith, none, ap (occurrences rows) (same_from_eq row v same))
    by_same false other = omega (arith, sum_by-cons (is_it v) row [], ap {B = ℕ} (λ (b : Bool). cond b 1 0) other)
