-- Rows of one width, and rows of another.
use Rattle.std.proofs.Common.{◌≡◌, ◌≢◌, ℕ, ◌-◌, Bool, true, false, cond, inl, inr, None, ◌<◌, get_or, List, [], ◌∷◌, length, refl, sym, ap, ◌∙◌, arith}
use Rattle.std.specs.Prelude.{All}
use Rattle.std.specs.Ordering.{eq_by_cmp}
use Rattle.std.proofs.lemmas.Bool.{cases_eq}
use Rattle.std.proofs.lemmas.List.Elements.{All-head, All-tail}
use Rattle.std.proofs.lemmas.List.Sums.{sum_by-cons}
use Rattle.tq_base.specs.declared.value.Value.{Value}
use Rattle.tq_base.specs.declared.fragment.Fragment.{Fragment}
use Rattle.std.specs.List.{range_with_len}
use Rattle.tq_base.specs.declared.sort_input.SortKey.{SortKey}
use Rattle.tq_base.specs.declared.sort_input.Side.{Side}
use Rattle.tq_base.specs.declared.sort_input.Side.TheVariants.{Left, Right}
use Rattle.tq_base.specs.Keys.{columns_on, key_row, key_values, no_row, rows_on, IsSortKey, SortInputState}
use Rattle.tq_base.specs.SortKeyLaws.{whole_row}
use Rattle.tq_base.specs.ValueOrder.{values_cmp, same_from_eq}
use Rattle.tq_base.specs.Periods.{holds}
use Rattle.tq_base.specs.Copies.{tally, copies-sum_by}
use Rattle.tq_base.specs.Fragments.{copies}
use Rattle.tq_condition.specs.Ordinary.{selection}
use Rattle.tq_ops.proofs.Counting.{one_if}

-- values of another width are in no row
none_of_width : (rows : List Fragment) (width : ℕ) (v : List Value) (t : ℕ) → All (λ (row : Fragment). length row.values ≡ width) rows → (length v ≡ width → ⊥) → copies rows v t ≡ 0
none_of_width [] width v t wide differ = refl
none_of_width (f ∷ rows) width v t wide differ =
    omega (
      arith,
      copies-sum_by (f ∷ rows) v t,
      sum_by-cons (tally v t) f rows,
      copies-sum_by rows v t,
      none (holds f.period t) (eq_by_cmp values_cmp f.values v) refl,
      none_of_width rows width v t (All-tail (λ (row : Fragment). length row.values ≡ width) f rows wide) differ,
    )
  where
    none : (h b : Bool) → eq_by_cmp values_cmp f.values v ≡ b → cond h (one_if b) 0 ≡ 0
    none true true is = absurd (differ (sym (ap length (same_from_eq f.values v is)) ∙ All-head (λ (row : Fragment). length row.values ≡ width) f rows wide))
    none true false is = refl
    none false b is = refl

-- rows of different widths are never equal, so nothing is removed
pub nothing_taken : (left right : List Fragment) (width other : ℕ) (v : List Value) (t : ℕ) → All (λ (row : Fragment). length row.values ≡ width) left → All (λ (row : Fragment). length row.values ≡ other) right → width ≢ other
    → copies left v t ≡ copies left v t - copies right v t
nothing_taken left right width other v t lefts rights differ = elim (cases_eq (length v) width) [
  | inl same ↦ omega (arith, none_of_width right other v t rights (λ is. differ (sym same ∙ is)))
  | inr apart ↦ omega (arith, none_of_width left width v t lefts apart)
]

pub all_pass : (rows : List (List Value)) → selection None rows ≡ rows
all_pass [] = refl
all_pass (row ∷ rows) = ap (λ l. row ∷ l) (all_pass rows)

-- ---- keys that are compared by all columns

module _ (s : SortInputState) (width : ℕ) (lefts : All (λ (row : Fragment). length row.values ≡ width) s.left) (rights : All (λ (row : Fragment). length row.values ≡ width) s.right) where
  pub wide : (k : SortKey) → IsSortKey s k → length (key_row s k).values ≡ width
  wide k is = by k.side is.stands
    where
      by : (side : Side) → k.row < length (rows_on s side) → length (get_or (rows_on s side) k.row no_row).values ≡ width
      by Left stands = lefts k.row no_row stands
      by Right stands = rights k.row no_row stands

  pub whole : s.left_columns ≡ range_with_len 0 width → s.right_columns ≡ range_with_len 0 width → (k : SortKey) → IsSortKey s k → key_values s k ≡ (key_row s k).values
  whole left right k is = whole_row s k width (by k.side) (wide k is)
    where
      by : (side : Side) → columns_on s side ≡ range_with_len 0 width
      by Left = left
      by Right = right
