-- The sum over all instants is the sum over the rows of their numbers times the lengths of their periods.
use Rattle.std.proofs.Common.{◌≡◌, ◌∙◌, ℕ, zero, suc, ◌+◌, ◌-◌, ◌*◌, ◌<◌, ◌≤◌, ℤ, pos, negsuc, neg_ℤ, ◌+ℤ◌, ◌*ℤ◌, ◌&&◌, Bool, true, false, cond, nat_le, nat_lt, List, [], ◌∷◌, map, filter, min, Some, refl, sym, ap, ap₂, arith}
use Rattle.std.proofs.Math.Nat.{mul-suc}
use Rattle.std.proofs.lemmas.Bool.Decides.{nat_tests}
use Rattle.std.proofs.lemmas.Int.{ints}
use Rattle.std.proofs.lemmas.Simd.{map-map}
use Rattle.std.proofs.lemmas.List.Elements.{All-head, All-tail, All-weaker}
use Rattle.std.specs.Prelude.{All}
use Rattle.std.specs.Option.{option_map}
use Rattle.tq_base.specs.Periods.{holds}
use Rattle.tq_base.specs.declared.fragment.Fragment.{Fragment}
use Rattle.tq_base.specs.declared.period.Period.{Period}
use Rattle.tq_base.specs.declared.period.TheConstants.{FOREVER}
use Rattle.tq_totals.specs.Sums.{row_sum, row_total, sums_over}
use Rattle.tq_totals.specs.Totals.{added, number_at, over_instants, sum_at, total, totals_over}
use Rattle.tq_totals.specs.declared.sums.Sum.{Sum}

same_over : (n : ℕ) (f g : ℕ → ℤ) → ((t : ℕ) → f t ≡ g t) → over_instants n f ≡ over_instants n g
unfolding over_instants
same_over zero f g same = refl
same_over (suc n) f g same = omega (arith, ints, same n, same_over n f g same)

zero_over : (n : ℕ) → over_instants n (λ t. pos 0) ≡ pos 0
unfolding over_instants
zero_over zero = refl
zero_over (suc n) = omega (arith, ints, zero_over n)

both_over : (n : ℕ) (f g : ℕ → ℤ) → over_instants n (λ t. f t +ℤ g t) ≡ over_instants n f +ℤ over_instants n g
unfolding over_instants
both_over zero f g = refl
both_over (suc n) f g = omega (arith, ints, both_over n f g)

times_zero : (z : ℤ) → z *ℤ pos 0 ≡ pos 0
times_zero (pos a) = omega (arith, ints)
times_zero (negsuc a) = omega (arith, ints)

mul_more : (a k : ℕ) → a * (k + 1) ≡ a * k + a
mul_more a k = ap (λ n. a * n) (let e : k + 1 ≡ suc k = omega arith in e) ∙ mul-suc a k

neg_more : (x y a : ℕ) → x ≡ y + suc a → neg_ℤ (pos x) ≡ neg_ℤ (pos y) +ℤ negsuc a
neg_more x y a e = omega (arith, ints, e)

times_more : (z : ℤ) (k : ℕ) → z *ℤ pos (k + 1) ≡ z *ℤ pos k +ℤ z
times_more (pos a) k = ap pos (mul_more a k)
times_more (negsuc a) k = neg_more (suc a * (k + 1)) (suc a * k) a (mul_more (suc a) k)

-- a number in each instant of a period adds up to the number times the period's length up to n
period_over : (p : Period) (z : ℤ) (n : ℕ) → over_instants n (λ t. cond (holds p t) z (pos 0)) ≡ z *ℤ pos (min n p.end - min n p.start)
unfolding over_instants
period_over p z zero = sym (ap (λ k. z *ℤ pos k) (let e : min 0 p.end - min 0 p.start ≡ 0 = omega arith in e) ∙ times_zero z)
period_over p z (suc n) = by (nat_le p.start n) (nat_lt n p.end) refl refl (period_over p z n)
  where
    by : (a b : Bool) → nat_le p.start n ≡ a → nat_lt n p.end ≡ b → over_instants n (λ t. cond (holds p t) z (pos 0)) ≡ z *ℤ pos (min n p.end - min n p.start)
        → over_instants n (λ t. cond (holds p t) z (pos 0)) +ℤ cond (a && b) z (pos 0) ≡ z *ℤ pos (min (suc n) p.end - min (suc n) p.start)
    by true true begun until before =
        let from : p.start ≤ n = grind (arith, nat_tests) in
        let to : n < p.end = grind (arith, nat_tests) in
        let more = times_more z (min n p.end - min n p.start) in
        let length = ap (λ k. z *ℤ pos k) (let e : (min n p.end - min n p.start) + 1 ≡ min (suc n) p.end - min (suc n) p.start = omega (arith, from, to) in e) in
        ap (λ s. s +ℤ z) before ∙ sym more ∙ length
    by true false begun until before =
        let from : p.start ≤ n = grind (arith, nat_tests) in
        let to : p.end ≤ n = grind (arith, nat_tests) in
        let length = ap (λ k. z *ℤ pos k) (let e : min n p.end - min n p.start ≡ min (suc n) p.end - min (suc n) p.start = omega (arith, from, to) in e) in
        omega (arith, ints, before, length)
    by false b begun until before =
        let from : n < p.start = grind (arith, nat_tests) in
        let length = ap (λ k. z *ℤ pos k) (let e : min n p.end - min n p.start ≡ min (suc n) p.end - min (suc n) p.start = omega (arith, from, p.ordered) in e) in
        omega (arith, ints, before, length)

sum_at_cons : (column : ℕ) (row : Fragment) (rows : List Fragment) (t : ℕ) → sum_at column (row ∷ rows) t ≡ cond (holds row.period t) (number_at column row) (pos 0) +ℤ sum_at column rows t
sum_at_cons column row rows t = by (holds row.period t)
  where
    by : (b : Bool) → added (number_at column) (cond b (row ∷ filter (λ r. holds r.period t) rows) (filter (λ r. holds r.period t) rows)) ≡ cond b (number_at column row) (pos 0) +ℤ sum_at column rows t
    by true = refl
    by false = omega (arith, ints)

rows_over : (column n : ℕ) (rows : List Fragment) → All (λ (row : Fragment). row.period.end ≤ n) rows → over_instants n (sum_at column rows) ≡ row_total rows column
rows_over column n [] ended = zero_over n
rows_over column n (row ∷ rows) ended =
    let first = All-head (λ (r : Fragment). r.period.end ≤ n) row rows ended in
    let length = ap (λ k. number_at column row *ℤ pos k) (let e : min n row.period.end - min n row.period.start ≡ row.period.end - row.period.start = omega (arith, first, row.period.ordered) in e) in
    let one = period_over row.period (number_at column row) n in
    let others = rows_over column n rows (All-tail (λ (r : Fragment). r.period.end ≤ n) row rows ended) in
    same_over n (sum_at column (row ∷ rows)) (λ t. cond (holds row.period t) (number_at column row) (pos 0) +ℤ sum_at column rows t) (sum_at_cons column row rows)
    ∙ both_over n (λ t. cond (holds row.period t) (number_at column row) (pos 0)) (sum_at column rows)
    ∙ omega (arith, ints, length, one, others)

-- the periods of rows end
abbrev pub AreEnded : List Fragment → Type 0
AreEnded rows = All (λ (row : Fragment). row.period.end < FOREVER) rows

total_is : (rows : List Fragment) (column : ℕ) → AreEnded rows → row_total rows column ≡ total rows column
total_is rows column ended =
    sym (rows_over column FOREVER rows (All-weaker (λ (row : Fragment). row.period.end < FOREVER) (λ (row : Fragment). row.period.end ≤ FOREVER) (λ row less. omega (arith, less)) rows ended))

-- the totals in the sums of a group are its totals
pub totals_are : (summed : List ℕ) (rows : List Fragment) → AreEnded rows → option_map (map (λ (sum : Sum). sum.total)) (sums_over summed rows) ≡ totals_over summed rows
totals_are summed [] ended = refl
totals_are summed (row ∷ rows) ended =
    ap Some (map-map (λ (sum : Sum). sum.total) (row_sum (row ∷ rows)) summed ∙ each summed)
  where
    each : (columns : List ℕ) → map (λ column. row_total (row ∷ rows) column) columns ≡ map (total (row ∷ rows)) columns
    each [] = refl
    each (column ∷ columns) = ap₂ (λ z zs. z ∷ zs) (total_is (row ∷ rows) column ended) (each columns)
