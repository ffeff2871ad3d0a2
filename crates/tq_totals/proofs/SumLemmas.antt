-- Sums over rows: one more row, and bounds.
use Rattle.std.proofs.Common.{◌≡◌, ◌∙◌, ℕ, ◌+◌, ◌-◌, ◌*◌, ◌^◌, ◌<◌, ◌≤◌, ℤ, pos, negsuc, ◌+ℤ◌, ◌*ℤ◌, List, [], ◌∷◌, ◌++◌, length, take, drop, get_or, map, sym, ap, arith, subst, unsigned_abs, ◌⊎◌, inl, inr}
use Rattle.std.proofs.lemmas.Bool.{cases_lt}
use Rattle.std.proofs.lemmas.Int.{ints, unsigned_abs-mul}
use Rattle.std.proofs.lemmas.List.{drop-set-lt, get_or-drop, get_or-map, take_more, take_more_set}
use Rattle.std.proofs.lemmas.List.Sums.{sum_by_push, sum_by-cons}
use Rattle.std.proofs.lemmas.Grind.{drop_more_same}
use Rattle.std.specs.Prelude.{set}
use Rattle.tq_base.specs.declared.fragment.Fragment.{Fragment}
use Rattle.tq_totals.specs.Sums.{row_sum, row_total, sum_more}
use Rattle.tq_totals.specs.Totals.{added, number_at, size}
use Rattle.tq_totals.specs.declared.sums.Sum.{Sum}

pub added-append : {X : Type 0} (w : X → ℤ) (xs ys : List X) → added w (xs ++ ys) ≡ added w xs +ℤ added w ys
added-append w [] ys = omega (arith, ints)
added-append w (x ∷ xs) ys = omega (arith, ints, added-append w xs ys)

-- what a row adds to a sum, and to its size
abbrev pub product : ℕ → Fragment → ℤ
product column row = number_at column row *ℤ pos (row.period.end - row.period.start)

abbrev pub product_size : ℕ → Fragment → ℕ
product_size column row = unsigned_abs (number_at column row) * (row.period.end - row.period.start)

pub total_more : (rows : List Fragment) (row : Fragment) (column : ℕ) → row_total (rows ++ row ∷ []) column ≡ row_total rows column +ℤ product column row
total_more rows row column = added-append (product column) rows (row ∷ []) ∙ omega (arith, ints)

pub size_more : (rows : List Fragment) (row : Fragment) (column : ℕ) → size (rows ++ row ∷ []) column ≡ size rows column + product_size column row
size_more rows row column = sum_by_push (product_size column) rows row

pub row_sum_more : (rows : List Fragment) (row : Fragment) (column : ℕ)
    → sum_more (row_sum rows column) (number_at column row) (row.period.end - row.period.start) ≡ row_sum (rows ++ row ∷ []) column
row_sum_more rows row column =
    let total = sym (total_more rows row column) in
    let size = sym (size_more rows row column) in
    λ i. record { total = total i; size = size i }

-- a total is at most as large as the sizes together
pub total_within : (rows : List Fragment) (column : ℕ) → unsigned_abs (row_total rows column) ≤ size rows column
total_within [] column = omega arith
total_within (row ∷ rows) column =
    let rest = total_within rows column in
    let first : unsigned_abs (product column row) ≡ product_size column row = unsigned_abs-mul (number_at column row) (pos (row.period.end - row.period.start)) in
    let both = sum_by-cons (product_size column) row rows in
    let triangle : unsigned_abs (product column row +ℤ row_total rows column) ≤ unsigned_abs (product column row) + unsigned_abs (row_total rows column) = abs_add (product column row) (row_total rows column) in
    omega (arith, rest, first, both, triangle)
  where
    abs_add : (a b : ℤ) → unsigned_abs (a +ℤ b) ≤ unsigned_abs a + unsigned_abs b
    abs_add (pos a) (pos b) = omega arith
    abs_add (pos a) (negsuc b) = omega (arith, ints)
    abs_add (negsuc a) (pos b) = omega (arith, ints)
    abs_add (negsuc a) (negsuc b) = omega arith

-- one more place of a list that is rewritten from the front
pub rewrite_more : {X : Type 0} (xs new old : List X) (n : ℕ) (y : X) → n < length xs → n < length new → y ≡ get_or new n y → take n xs ≡ take n new → drop n xs ≡ drop n old
    → (take (n + 1) (set xs n y) ≡ take (n + 1) new) × (drop (n + 1) (set xs n y) ≡ drop (n + 1) old)
rewrite_more xs new old n y within also is front rest = (
  take_more_set xs n y within ∙ ap (λ l. l ++ y ∷ []) front ∙ ap (λ z. take n new ++ z ∷ []) is ∙ sym (take_more new n y also),
  drop-set-lt (n + 1) xs n y (omega arith) ∙ drop_more_same xs old n rest,
)

-- the next place of a list that is as before from there on
next_as_before : {X : Type 0} (xs old : List X) (n : ℕ) (d : X) → drop n xs ≡ drop n old → get_or xs n d ≡ get_or old n d
next_as_before xs old n d rest =
    let place : n ≡ n + 0 = omega arith in
    ap (λ m. get_or xs m d) place ∙ sym (get_or-drop n xs 0 d) ∙ ap (λ l. get_or l 0 d) rest ∙ get_or-drop n old 0 d ∙ ap (λ m. get_or old m d) (sym place)

-- the sum at a place where the row was not added yet
pub sum_there : (sums : List Sum) (rows : List Fragment) (summed : List ℕ) (at : ℕ) (x : Sum) → at < length summed → drop at sums ≡ drop at (map (row_sum rows) summed)
    → x ≡ get_or sums at x → x ≡ row_sum rows (get_or summed at 0)
sum_there sums rows summed at x within rest is =
    is ∙ next_as_before sums (map (row_sum rows) summed) at x rest ∙ get_or-map (row_sum rows) summed at 0 x within

module _ (rows : List Fragment) (row : Fragment) (column : ℕ) where
  sum_as : (x : Sum) (number : ℤ) (len : ℕ) → x ≡ row_sum rows column → number ≡ number_at column row → len ≡ row.period.end - row.period.start
      → sum_more x number len ≡ row_sum (rows ++ row ∷ []) column
  sum_as x number len there same long = (λ i. sum_more (there i) (same i) (long i)) ∙ row_sum_more rows row column

  pub row_sum_is : (x : Sum) (number : ℤ) (len : ℕ) (sum : Sum) → x ≡ row_sum rows column → number ≡ number_at column row → len ≡ row.period.end - row.period.start
      → sum ≡ sum_more x number len → sum ≡ row_sum (rows ++ row ∷ []) column
  row_sum_is x number len sum there same long is = is ∙ sum_as x number len there same long

  pub too_large : (x : Sum) (number : ℤ) (len : ℕ) → x ≡ row_sum rows column → number ≡ number_at column row → len ≡ row.period.end - row.period.start
      → ¬ (x.size + unsigned_abs number * len < 2 ^ 127) → 2 ^ 127 ≤ size (rows ++ row ∷ []) column
  too_large x number len there same long large =
      let is : x.size + unsigned_abs number * len ≡ size (rows ++ row ∷ []) column = ap (λ (s : Sum). s.size) (sum_as x number len there same long) in
      by (cases_lt (x.size + unsigned_abs number * len) (2 ^ 127)) is
    where
      by : (x.size + unsigned_abs number * len < 2 ^ 127) ⊎ (2 ^ 127 ≤ x.size + unsigned_abs number * len) → x.size + unsigned_abs number * len ≡ size (rows ++ row ∷ []) column → 2 ^ 127 ≤ size (rows ++ row ∷ []) column
      by (inl less) is = absurd (large less)
      by (inr most) is = subst (λ n. 2 ^ 127 ≤ n) is most
